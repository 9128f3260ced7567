-- What an end tells in a call stands together in its records, where its process is visited for a block.
use Rattle.std.proofs.Common.{List, [], ◌++◌, map, append_assoc, append-nil, refl, ap, sym, ◌∙◌}
use Rattle.air_record.specs.declared.record.Record.{Record}
use Rattle.air_record.specs.declared.record.Record.TheVariants as records
use Rattle.bearer_types.specs.declared.event.Event.{Event}
use Rattle.l2_node.specs.End.{End}
use Rattle.l2_types.specs.declared.side.Side.{Side}
use Rattle.l2_types.specs.declared.side.Side.TheVariants.{Nb, Ue}
use Rattle.law_deliver.specs.AmChannel.Lives.{AirStep, InLife}
use Rattle.law_deliver.specs.AmFlow.Air.{Air, Calls, AtNb, AtUe}
use Rattle.law_node.specs.Calls.{Visits}
use Rattle.law_node.specs.Calls.{Call as EndCall}
use Rattle.law_node.specs.Telling.{told_of}
use Rattle.law_run.specs.TwoEnds.Along.{StandTogether, TellsTogether}

-- ---- events, alone, before other records and behind them

pub together_before : (side : Side) (es : List Event) (more : List Record)
    → StandTogether side es (map (records.Of side) es ++ more)
together_before side es more = record { before = []; behind = more; are = refl }

pub together_alone : (side : Side) (es : List Event) → StandTogether side es (map (records.Of side) es)
together_alone side es = record { before = []; behind = []; are = sym (append-nil (map (records.Of side) es)) }

pub together_behind : (f : List Record) (side : Side) (es : List Event) (told : List Record)
    → StandTogether side es told → StandTogether side es (f ++ told)
together_behind f side es told h = record {
  before = f ++ h.before;
  behind = h.behind;
  are = ap (λ (g : List Record). f ++ g) h.are
      ∙ sym (append_assoc f h.before (map (λ (e : Event). records.Of side e) es ++ h.behind));
}

-- ---- a step, with records in front of its own

pub tells_behind : (f : List Record) (x : AirStep) (a : Air) (told : List Record) → TellsTogether x a told
    → TellsTogether x a (f ++ told)
tells_behind f (InLife (AtNb (Calls (Visits t)))) a told h =
    together_behind f Nb (told_of a.nb.end (Visits t)) told h
tells_behind f (InLife (AtUe (Calls (Visits t)))) a told h =
    together_behind f Ue (told_of a.ue.end (Visits t)) told h
tells_behind f x a told h = tt

-- ---- a call of an end

-- what it tells stands together, where it is a visit
abbrev pub CallTogether : Side → End → EndCall → List Record → Type 0
CallTogether side e (Visits t) told = StandTogether side (told_of e (Visits t)) told
CallTogether side e c told = Unit {0}

pub nb_together : (c : EndCall) (a : Air) (told : List Record) → CallTogether Nb a.nb.end c told
    → TellsTogether (InLife (AtNb (Calls c))) a told
nb_together (Visits t) a told h = h
nb_together c a told h = tt

pub ue_together : (c : EndCall) (a : Air) (told : List Record) → CallTogether Ue a.ue.end c told
    → TellsTogether (InLife (AtUe (Calls c))) a told
ue_together (Visits t) a told h = h
ue_together c a told h = tt
