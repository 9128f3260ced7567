-- Events that tell nothing of the air: no PDU is written by them.
use Rattle.std.proofs.Common.{◌≡◌, ℕ, Bool, true, false, cond, List, [], ◌∷◌}
use Rattle.std.proofs.Common.{◌++◌, map, refl, ap, ◌∙◌}
use Rattle.std.specs.List.{filter, flat_map}
use Rattle.bearer_types.specs.Sides.{is_same}
use Rattle.air_record.specs.declared.record.Record.TheVariants as records
use Rattle.bearer_types.specs.declared.event.Event.{Event}
use Rattle.l2_types.specs.declared.side.Side.{Side}
use Rattle.law_words.specs.Arrivals.{Given, AccountEntry}
use Rattle.promises.specs.Given.{given_in, entries_of, entries_given}
use Rattle.promises.specs.Events.{is_on, told_on, is_of_writing}
use Rattle.bearer_types.specs.declared.event.Event.TheVariants as events
use Rattle.law_node.specs.Writing.{TellNone}
use Rattle.promises.specs.Arrival.{only_if, entries_in}
use Rattle.law_run.proofs.TwoEnds.Going.{TellNoAir}

-- they are of no writing
unwritten_if : (b : Bool) (bits : ℕ) (e : Event) → flat_map (given_in bits) (e ∷ []) ≡ []
    → entries_given bits (cond b (e ∷ []) []) ≡ []
unwritten_if true bits e q = ap (λ (gs : List Given). entries_of gs) q
unwritten_if false bits e q = refl

pub unwritten : (bits l : ℕ) (e : Event) → is_of_writing e ≡ false → entries_given bits (told_on l (e ∷ [])) ≡ []
unwritten bits l (events.Take lcid count len) q = cc
unwritten bits l (events.Report lcid fms bitmap) q = cc
unwritten bits l e q = unwritten_if (is_on l e) bits e refl

pub none_if : (b : Bool) (hs : List AccountEntry) → hs ≡ [] → only_if b hs ≡ []
none_if true hs q = q
none_if false hs q = refl

pub quiet_events : (side : Side) (es : List Event) → TellNone es → TellNoAir (map (records.Of side) es)
quiet_events side [] q bits l from sent = refl
quiet_events side (e ∷ es) q bits l from sent =
    by (is_of_writing e) refl q (λ r. quiet_events side es r bits l from sent)
  where
    by : (b : Bool) → is_of_writing e ≡ b → cond b (e ∷ filter is_of_writing es) (filter is_of_writing es) ≡ []
        → (TellNone es → entries_in bits l from sent (map (records.Of side) es) ≡ [])
        → entries_in bits l from sent (map (records.Of side) (e ∷ es)) ≡ []
    by true p r rest = cc
    by false p r rest =
        ap (λ (hs : List AccountEntry). hs ++ entries_in bits l from sent (map (records.Of side) es))
        (none_if (is_same side from) (entries_given bits (told_on l (e ∷ []))) (unwritten bits l e p)) ∙ rest r
