-- How the ends of a link go on: by no call, by one, by those of one stage after another; and which stages leave the
-- HARQ processes alone.
use Rattle.std.proofs.Common.{◌≡◌, ℕ, ◌+◌, Bool, true, false, ◌&&◌, nat_le, cond, if◌then◌else◌, Option, Some, None}
use Rattle.std.proofs.Common.{List, [], ◌∷◌, ◌++◌, length, map, append_assoc, append-nil, refl, ap, sym, subst, ◌∙◌}
use Rattle.std.specs.List.{filter}
use Rattle.std.proofs.lemmas.List.Elements.{filter-append}
use Rattle.air_link.specs.Link.{Link, says, end_of, with_end}
use Rattle.bearer_types.specs.Sides.{other}
use Rattle.air_link.specs.Loops.{loses, returns_by, returns, returns_all, kept_by, takes, takes_all, loops, owed, paid}
use Rattle.air_link.specs.Loops.{pays}
use Rattle.air_link.specs.Telling.{delivers, gathers, fails, noted, tells, tells_all}
use Rattle.air_link.specs.Downlink.{hears}
use Rattle.air_link.specs.Ttis.{begins, tells_sleep, grows, times, keeps_first, timed}
use Rattle.air_record.specs.declared.record.Record.{Record}
use Rattle.air_record.specs.declared.record.Record.TheVariants as records
use Rattle.bearer_types.specs.declared.event.Event.{Event}
use Rattle.bearer_types.specs.declared.event.Event.TheVariants as events
use Rattle.l2_bits.specs.declared.fault.SubmitRefusal.{SubmitRefusal}
use Rattle.l2_node.specs.End.{End}
use Rattle.l2_node.specs.Finding.{has}
use Rattle.l2_node.specs.Hearing.{ticked}
use Rattle.l2_node.specs.Submitting.{refusal, submitted}
use Rattle.l2_types.specs.declared.side.Side.{Side}
use Rattle.l2_types.specs.declared.side.Side.TheVariants.{Nb, Ue}
use Rattle.law_node.specs.Calls.{Call as EndCall, Submit, Tick, TickBuckets, Receive, after_submit, after as after_call}
use Rattle.law_node.specs.Calls.{run_end, IsGiven as IsGivenTo, AreGiven}
use Rattle.promises.specs.Events.{is_of_loop, TellNoLoop, is_of_writing}
use Rattle.law_node.specs.Telling.{told_of, told_over}
use Rattle.law_node.specs.Writing.{TellNone}
use Rattle.law_node.proofs.Looping.{tells_no_loop}
use Rattle.law_node.proofs.Silences.{writes_nothing}
use Rattle.pdu_show.specs.declared.kinds.Layout.{Layout}
use Rattle.test_loop.specs.declared.Kept.{Kept}
use Rattle.test_loop.specs.declared.Kept.TheVariants.{Now, Later, Full}
use Rattle.test_loop.specs.Items.{Item, item}
use Rattle.test_loop.specs.Loops.{is_on, is_keeping, taken_answer, after_taken, after_tick}
use Rattle.law_run.specs.AnyCalls.Deeds.{Entity, entity, Entities, entities}
use Rattle.law_run.specs.AnyCalls.Ends.{begins_life, LivesOn, GoesThrough, GoesOn}
use Rattle.promises.specs.Records.{event_of, events_of, is_of_building}

-- ---- what records tell of an end

told_then : (side : Side) (xs ys : List Record) → events_of side (xs ++ ys) ≡ events_of side xs ++ events_of side ys
told_then side [] ys = refl
told_then side (x ∷ xs) ys =
    ap (λ (es : List Event). event_of side x ++ es) (told_then side xs ys)
    ∙ sym (append_assoc (event_of side x) (events_of side xs) (events_of side ys))

own_by : (b : Bool) (side : Side) (e : Event) (es : List Event) → is_of_loop e ≡ b
    → cond b (e ∷ filter is_of_loop es) (filter is_of_loop es) ≡ []
    → (TellNoLoop es → events_of side (map (records.Of side) es) ≡ es)
    → events_of side (records.Of side e ∷ map (records.Of side) es) ≡ e ∷ es
own_by true side e es is none rest = let no : e ∷ filter is_of_loop es ≡ [] = none in cc
own_by false Nb e es is none rest = rw is (ap (λ (x : List Event). e ∷ x) (rest none))
own_by false Ue e es is none rest = rw is (ap (λ (x : List Event). e ∷ x) (rest none))

-- the events of an end, as records of its side
pub own_told : (side : Side) (es : List Event) → TellNoLoop es → events_of side (map (records.Of side) es) ≡ es
own_told side [] none = refl
own_told side (e ∷ es) none = own_by (is_of_loop e) side e es refl none (own_told side es)

pub other_told : (side : Side) (es : List Event) → events_of (other side) (map (records.Of side) es) ≡ []
other_told Nb [] = refl
other_told Ue [] = refl
other_told Nb (e ∷ es) = other_told Nb es
other_told Ue (e ∷ es) = other_told Ue es

-- what one side tells, and then the other
pub told_both : (side : Side) (xs ys : List Record) (es fs : List Event) → events_of side xs ≡ es
    → events_of side ys ≡ fs
    → events_of side (xs ++ ys) ≡ es ++ fs
told_both side xs ys es fs p q = told_then side xs ys ∙ ap (λ (x : List Event). x ++ events_of side ys) p
    ∙ ap (λ (x : List Event). es ++ x) q

-- ---- an end

-- no life begins
abbrev pub KeepsOn : Side → List Record → End → End → Type 0
KeepsOn side told e f = LivesOn [] side told e f

pub by_none : (side : Side) (e : End) → KeepsOn side [] e e
by_none side e = record { by = record { calls = []; given = tt; end_is = refl; told_is = refl }; lives_are = refl }

-- records that tell nothing of it
pub by_same : (side : Side) (told : List Record) (e f : End) → f ≡ e → events_of side told ≡ [] → KeepsOn side told e f
by_same side told e f same none =
    record { by = record { calls = []; given = tt; end_is = same; told_is = none }; lives_are = refl }

pub by_call : (lives : List EndCall) (side : Side) (told : List Record) (c : EndCall) (e f : End) → IsGivenTo c
    → filter begins_life (c ∷ []) ≡ lives → f ≡ after_call e c → events_of side told ≡ told_of e c
    → LivesOn lives side told e f
by_call lives side told c e f g begun same is =
    record {
      by = record {
        calls = c ∷ [];
        given = (g, tt);
        end_is = same;
        told_is = is ∙ sym (append-nil (told_of e c));
      };
      lives_are = begun;
    }

pub by_one : (side : Side) (told : List Record) (c : EndCall) (e f : End) → IsGivenTo c → begins_life c ≡ false
    → f ≡ after_call e c → events_of side told ≡ told_of e c → KeepsOn side told e f
by_one side told c e f g goes same is =
    by_call [] side told c e f g (ap (λ (b : Bool). cond b (c ∷ []) []) goes) same is

-- an SDU that isn't refused is submitted
pub by_submit : (side : Side) (told : List Record) (lcid : ℕ) (octets : List ℕ) (e : End)
    → refusal lcid octets e ≡ None → events_of side told ≡ [] → KeepsOn side told e (submitted lcid octets e)
unfolding submitted
by_submit side told lcid octets e allowed none =
    by_one side told (Submit lcid octets) e _ tt refl
    (sym (ap (λ (r : Option SubmitRefusal). record e { bearers = (after_submit r lcid octets e).bearers })
    allowed)) none

pub run_on : (xs ys : List EndCall) (e : End) → run_end (xs ++ ys) e ≡ run_end ys (run_end xs e)
run_on [] ys e = refl
run_on (x ∷ xs) ys e = run_on xs ys (after_call e x)

pub given_on : (xs ys : List EndCall) → AreGiven xs → AreGiven ys → AreGiven (xs ++ ys)
given_on [] ys p q = q
given_on (x ∷ xs) ys p q = (p.0, given_on xs ys p.1 q)

pub over_on : (xs ys : List EndCall) (e : End) → told_over (xs ++ ys) e ≡ told_over xs e ++ told_over ys (run_end xs e)
over_on [] ys e = refl
over_on (x ∷ xs) ys e =
    ap (λ (es : List Event). told_of e x ++ es) (over_on xs ys (after_call e x))
    ∙ sym (append_assoc (told_of e x) (told_over xs (after_call e x)) (told_over ys (run_end xs (after_call e x))))

pub lives_then : (xs ys : List EndCall) (side : Side) (f g : List Record) (a b c : End) → LivesOn xs side f a b
    → LivesOn ys side g b c → LivesOn (xs ++ ys) side (f ++ g) a c
lives_then xs ys side f g a b c p q =
    let cs = p.by.calls in
    let ds = q.by.calls in
    record {
      by = record {
        calls = cs ++ ds;
        given = given_on cs ds p.by.given q.by.given;
        end_is = q.by.end_is ∙ ap (run_end ds) p.by.end_is ∙ sym (run_on cs ds a);
        told_is = told_both side f g (told_over cs a) (told_over ds (run_end cs a)) p.by.told_is
            (q.by.told_is ∙ ap (told_over ds) p.by.end_is) ∙ sym (over_on cs ds a);
      };
      lives_are = filter-append begins_life cs ds ∙ ap (λ (x : List EndCall). x ++ filter begins_life ds) p.lives_are
          ∙ ap (λ (x : List EndCall). xs ++ x) q.lives_are;
    }

-- and no other life begins
keeps_then : (lives : List EndCall) (side : Side) (f g : List Record) (a b c : End) → LivesOn lives side f a b
    → KeepsOn side g b c → LivesOn lives side (f ++ g) a c
keeps_then lives side f g a b c p q =
    subst (λ (x : List EndCall). LivesOn x side (f ++ g) a c) (append-nil lives)
    (lives_then lives [] side f g a b c p q)

-- ---- both ends and the records

pub through_then : (lives : List EndCall) (f g : List Record) (l m n : Link) → GoesThrough lives f l m → GoesOn g m n
    → GoesThrough lives (f ++ g) l n
through_then lives f g l m n p q = record {
  more = p.more ++ q.more;
  out_is = q.out_is ∙ ap (λ (x : List Record). x ++ q.more) p.out_is ∙ append_assoc l.out p.more q.more;
  nb = keeps_then lives Nb p.more q.more l.nb m.nb n.nb p.nb q.nb;
  ue = keeps_then lives Ue p.more q.more l.ue m.ue n.ue p.ue q.ue;
  blocks_are = filter-append is_of_building p.more q.more
      ∙ ap (λ (x : List Record). x ++ filter is_of_building q.more) p.blocks_are
      ∙ ap (λ (x : List Record). f ++ x) q.blocks_are;
  kinds_are = q.kinds_are ∙ p.kinds_are;
}

pub goes_then : (f g : List Record) (l m n : Link) → GoesOn f l m → GoesOn g m n → GoesOn (f ++ g) l n
goes_then f g l m n p q = through_then [] f g l m n p q

-- a stage in which nothing is built
pub goes_by : (f : List Record) (l m n : Link) → GoesOn f l m → GoesOn [] m n → GoesOn f l n
goes_by f l m n p q = subst (λ (x : List Record). GoesOn x l n) (append-nil f) (goes_then f [] l m n p q)

-- what is seen of a link here
pub record Seen : Type 0 where
  pub nb : End
  pub ue : End
  pub out : List Record
  pub kinds : List (Option Layout)

abbrev pub seen : Link → Seen
seen l = record { nb = l.nb; ue = l.ue; out = l.out; kinds = l.kinds }

-- ends and records behind a link
abbrev pub behind : Link → End → End → List Record → Seen
behind l nb ue more = record { nb = nb; ue = ue; out = l.out ++ more; kinds = l.kinds }

pub through_seen : (lives : List EndCall) (blocks more : List Record) (l m : Link) (nb ue : End)
    → seen m ≡ behind l nb ue more → filter is_of_building more ≡ blocks → LivesOn lives Nb more l.nb nb
    → LivesOn lives Ue more l.ue ue
    → GoesThrough lives blocks l m
through_seen lives blocks more l m nb ue is blocks_are p q = record {
  more = more;
  out_is = ap (λ (s : Seen). s.out) is;
  nb = subst (λ (e : End). LivesOn lives Nb more l.nb e) (sym (ap (λ (s : Seen). s.nb) is)) p;
  ue = subst (λ (e : End). LivesOn lives Ue more l.ue e) (sym (ap (λ (s : Seen). s.ue) is)) q;
  blocks_are = blocks_are;
  kinds_are = ap (λ (s : Seen). s.kinds) is;
}

pub goes_seen : (blocks more : List Record) (l m : Link) (nb ue : End) → seen m ≡ behind l nb ue more
    → filter is_of_building more ≡ blocks → KeepsOn Nb more l.nb nb → KeepsOn Ue more l.ue ue → GoesOn blocks l m
goes_seen blocks more l m nb ue is blocks_are p q = through_seen [] blocks more l m nb ue is blocks_are p q

-- ---- a stage in which nothing is built, and that leaves the HARQ processes of both ends alone

pub record Rests (l m : Link) : Type 0 where
  pub goes : GoesOn [] l m
  pub entities_are : entities m ≡ entities l

pub rests_then : (l m n : Link) → Rests l m → Rests m n → Rests l n
rests_then l m n p q = record {
  goes = goes_then [] [] l m n p.goes q.goes;
  entities_are = q.entities_are ∙ p.entities_are;
}

-- the processes of what is seen
abbrev seen_entities : Seen → Entities
seen_entities s = record { nb = entity s.nb; ue = entity s.ue }

pub unseen_rests : (l m : Link) → seen m ≡ seen l → Rests l m
unseen_rests l m e = record {
  goes =
      goes_seen [] [] l m l.nb l.ue
      (e ∙ ap (λ (x : List Record). record { nb = l.nb; ue = l.ue; out = x; kinds = l.kinds })
      (sym (append-nil l.out))) refl (by_none Nb l.nb) (by_none Ue l.ue);
  entities_are = ap seen_entities e;
}

-- a record that tells nothing of an end
pub says_rests : (one : Record) (l : Link) → is_of_building one ≡ false → event_of Nb one ≡ [] → event_of Ue one ≡ []
    → Rests l (says one l)
says_rests one l e nb ue = record {
  goes = goes_seen [] (one ∷ []) l (says one l) l.nb l.ue refl (ap (λ (b : Bool). cond b (one ∷ []) []) e)
      (by_same Nb (one ∷ []) l.nb l.nb refl (ap (λ (x : List Event). x ++ []) nb))
      (by_same Ue (one ∷ []) l.ue l.ue refl (ap (λ (x : List Event). x ++ []) ue));
  entities_are = refl;
}

-- an end goes on by a call in which it tells nothing
pub call_goes : (side : Side) (c : EndCall) (l : Link) → IsGivenTo c → begins_life c ≡ false
    → told_of (end_of side l) c ≡ [] → GoesOn [] l (with_end side (after_call (end_of side l) c) l)
call_goes Nb c l g goes none =
    goes_seen [] [] l _ (after_call l.nb c) l.ue
    (ap (λ (x : List Record). record { nb = after_call l.nb c; ue = l.ue; out = x; kinds = l.kinds })
    (sym (append-nil l.out))) refl
    (by_one Nb [] c l.nb (after_call l.nb c) g goes refl (sym none)) (by_none Ue l.ue)
call_goes Ue c l g goes none =
    goes_seen [] [] l _ l.nb (after_call l.ue c)
    (ap (λ (x : List Record). record { nb = l.nb; ue = after_call l.ue c; out = x; kinds = l.kinds })
    (sym (append-nil l.out))) refl
    (by_none Nb l.nb) (by_one Ue [] c l.ue (after_call l.ue c) g goes refl (sym none))

-- ---- what an end tells

gathers_if : (b : Bool) (i : Item) (l : Link) → seen (if b then record l { ups = l.ups ++ i ∷ [] } else l) ≡ seen l
gathers_if true i l = refl
gathers_if false i l = refl

up_noted : (side : Side) (lcid : ℕ) (octets : List ℕ) (l : Link)
    → seen (gathers side lcid octets (delivers side lcid l)) ≡ seen l
up_noted Nb lcid octets l = refl
up_noted Ue lcid octets l =
    gathers_if ((is_on l.looping.mode && nat_le 3 lcid) && nat_le 1 (length octets)) (item lcid octets)
    (delivers Ue lcid l)

fail_noted : (side : Side) (lcid : ℕ) (l : Link) → seen (fails side lcid l) ≡ seen l
fail_noted Nb lcid l = refl
fail_noted Ue lcid l = refl

noted_seen : (side : Side) (e : Event) (l : Link) → seen (noted side e l) ≡ seen l
noted_seen side (events.Up lcid octets) l = up_noted side lcid octets l
noted_seen side (events.Fail lcid sn) l = fail_noted side lcid l
noted_seen side (events.Take lcid count len) l = refl
noted_seen side (events.Report lcid fms bitmap) l = refl
noted_seen side (events.Send lcid how sn) l = refl
noted_seen side (events.Wait lcid why) l = refl
noted_seen side (events.Start lcid clock) l = refl
noted_seen side (events.Stop lcid clock) l = refl
noted_seen side (events.Expired lcid clock) l = refl
noted_seen side (events.Drop lcid why) l = refl
noted_seen side (events.Integrity lcid found wanted) l = refl
noted_seen side (events.BadMac fault) l = refl
noted_seen side (events.BadRlc lcid fault) l = refl
noted_seen side (events.BadPdcp lcid fault) l = refl
noted_seen side (events.Discard lcid len) l = refl

pub told_seen : (side : Side) (es : List Event) (l : Link)
    → seen (tells_all side es l) ≡ behind l l.nb l.ue (map (records.Of side) es)
told_seen side [] l =
    ap (λ (x : List Record). record { nb = l.nb; ue = l.ue; out = x; kinds = l.kinds }) (sym (append-nil l.out))
told_seen side (e ∷ es) l =
    told_seen side es (tells side e l)
    ∙ ap (λ (s : Seen). record {
      nb = s.nb;
      ue = s.ue;
      out = (s.out ++ records.Of side e ∷ []) ++ map (records.Of side) es;
      kinds = s.kinds;
    }) (noted_seen side e l)
    ∙ ap (λ (x : List Record). record { nb = l.nb; ue = l.ue; out = x; kinds = l.kinds })
    (append_assoc l.out (records.Of side e ∷ []) (map (records.Of side) es))

blocks_if : (b : Bool) (side : Side) (e : Event) (es : List Event)
    → cond b (records.Of side e ∷ map (records.Of side) (filter is_of_writing es))
    (map (records.Of side) (filter is_of_writing es))
    ≡ map (records.Of side) (cond b (e ∷ filter is_of_writing es) (filter is_of_writing es))
blocks_if true side e es = refl
blocks_if false side e es = refl

pub blocks_of : (side : Side) (es : List Event)
    → filter is_of_building (map (records.Of side) es) ≡ map (records.Of side) (filter is_of_writing es)
blocks_of side [] = refl
blocks_of side (e ∷ es) = rw (blocks_of side es) (blocks_if (is_of_writing e) side e es)

-- an end goes on by a call in which it writes nothing, and tells what it tells in it
pub call_tells : (side : Side) (c : EndCall) (l : Link) → IsGivenTo c → begins_life c ≡ false
    → TellNone (told_of (end_of side l) c) → entity (after_call (end_of side l) c) ≡ entity (end_of side l)
    → Rests l (tells_all side (told_of (end_of side l) c) (with_end side (after_call (end_of side l) c) l))
call_tells Nb c l g goes none same =
    let es = told_of l.nb c in
    let e = told_seen Nb es (with_end Nb (after_call l.nb c) l) in
    record {
      goes = goes_seen [] (map (records.Of Nb) es) l _ (after_call l.nb c) l.ue e
          (blocks_of Nb es ∙ ap (map (records.Of Nb)) none)
          (by_one Nb (map (records.Of Nb) es) c l.nb (after_call l.nb c) g goes refl
          (own_told Nb es (tells_no_loop l.nb c)))
          (by_same Ue (map (records.Of Nb) es) l.ue l.ue refl (other_told Nb es));
      entities_are = ap seen_entities e ∙ ap (λ (x : Entity). record { nb = x; ue = entity l.ue }) same;
    }
call_tells Ue c l g goes none same =
    let es = told_of l.ue c in
    let e = told_seen Ue es (with_end Ue (after_call l.ue c) l) in
    record {
      goes = goes_seen [] (map (records.Of Ue) es) l _ l.nb (after_call l.ue c) e
          (blocks_of Ue es ∙ ap (map (records.Of Ue)) none)
          (by_same Nb (map (records.Of Ue) es) l.nb l.nb refl (other_told Ue es))
          (by_one Ue (map (records.Of Ue) es) c l.ue (after_call l.ue c) g goes refl
          (own_told Ue es (tells_no_loop l.ue c)));
      entities_are = ap seen_entities e ∙ ap (λ (x : Entity). record { nb = entity l.nb; ue = x }) same;
    }

pub told_rests : (side : Side) (es : List Event) (l : Link) → entities (tells_all side es l) ≡ entities l
told_rests side es l = ap seen_entities (told_seen side es l)

-- a block is heard
pub hears_rests : (side : Side) (block : List ℕ) (l : Link) → Rests l (hears side block l)
hears_rests side block l =
    call_tells side (Receive block) l tt refl ((writes_nothing (end_of side l)).receiving block) refl

-- ---- the test loop

loses_rests : (lcid : ℕ) (l : Link) → Rests l (loses lcid l)
loses_rests lcid l = says_rests _ l refl refl refl

returns_by_rests : (r : Option SubmitRefusal) (lcid : ℕ) (octets : List ℕ) (l : Link) → refusal lcid octets l.ue ≡ r
    → Rests l (returns_by r lcid octets l)
unfolding submitted
returns_by_rests (Some broken) lcid octets l e = loses_rests lcid l
returns_by_rests None lcid octets l e = record {
  goes = goes_seen [] (records.Looped lcid octets ∷ []) l _ l.nb (submitted lcid octets l.ue) refl refl
      (by_same Nb (records.Looped lcid octets ∷ []) l.nb l.nb refl refl)
      (by_submit Ue (records.Looped lcid octets ∷ []) lcid octets l.ue e refl);
  entities_are = refl;
}

returns_if : (b : Bool) (lcid : ℕ) (octets : List ℕ) (l : Link)
    → Rests l (if b then returns_by (refusal lcid octets l.ue) lcid octets l else loses lcid l)
returns_if true lcid octets l = returns_by_rests (refusal lcid octets l.ue) lcid octets l refl
returns_if false lcid octets l = loses_rests lcid l

returns_rests : (lcid : ℕ) (octets : List ℕ) (l : Link) → Rests l (returns lcid octets l)
returns_rests lcid octets l = returns_if (has lcid l.ue.bearers) lcid octets l

returns_all_rests : (is : List Item) (l : Link) → Rests l (returns_all is l)
returns_all_rests [] l = unseen_rests l l refl
returns_all_rests (i ∷ is) l =
    let m = returns i.lcid i.octets l in
    rests_then l m (returns_all is m) (returns_rests i.lcid i.octets l) (returns_all_rests is m)

kept_rests : (k : Kept) (lcid : ℕ) (l : Link) → Rests l (kept_by k lcid l)
kept_rests (Now octets) lcid l = returns_rests lcid octets l
kept_rests Later lcid l = unseen_rests l l refl
kept_rests Full lcid l = loses_rests lcid l

takes_if : (b : Bool) (i : Item) (l : Link)
    → Rests l (if b then kept_by (taken_answer l.looping i.octets) i.lcid
    (record l { looping = after_taken l.looping i }) else l)
takes_if true i l =
    let m : Link = record l { looping = after_taken l.looping i } in
    let k = taken_answer l.looping i.octets in
    rests_then l m (kept_by k i.lcid m) (unseen_rests l m refl) (kept_rests k i.lcid m)
takes_if false i l = unseen_rests l l refl

takes_all_rests : (is : List Item) (l : Link) → Rests l (takes_all is l)
takes_all_rests [] l = unseen_rests l l refl
takes_all_rests (i ∷ is) l =
    let m = takes i l in
    rests_then l m (takes_all is m) (takes_if (is_on l.looping.mode) i l) (takes_all_rests is m)

pub loops_rests : (l : Link) → Rests l (loops l)
unfolding loops
loops_rests l =
    let m : Link = record l { ups = [] } in
    rests_then l m (takes_all l.ups m) (unseen_rests l m refl) (takes_all_rests l.ups m)

pub pays_rests : (l : Link) → Rests l (pays l)
unfolding pays
pays_rests l =
    let m : Link = record l { looping = paid l.looping } in
    let is = owed l.looping in
    rests_then l m (returns_all is m) (unseen_rests l m refl) (returns_all_rests is m)

-- ---- timers

pub grows_rests : (side : Side) (l : Link) → Rests l (grows side l)
grows_rests Nb l = record { goes = call_goes Nb TickBuckets l tt refl refl; entities_are = refl }
grows_rests Ue l = record { goes = call_goes Ue TickBuckets l tt refl refl; entities_are = refl }

times_rests : (side : Side) (l : Link) → Rests l (times side l)
times_rests side l =
    let e = end_of side l in
    let n = tells_all side (ticked e).events (with_end side (after_call e Tick) l) in
    rests_then l n (grows side n) (call_tells side Tick l tt refl (writes_nothing e).ticking refl) (grows_rests side n)

keeps_if : (b : Bool) (l : Link) → Rests l (if b then loops l else l)
keeps_if true l = loops_rests l
keeps_if false l = unseen_rests l l refl

timed_rests : (l : Link) → Rests l (timed l)
unfolding timed
timed_rests l =
    let j : Link = record l { looping = after_tick l.looping } in
    let m = times Nb j in
    let n = times Ue m in
    let o = keeps_first n in
    let to_m = rests_then l j m (unseen_rests l j refl) (times_rests Nb j) in
    let to_n = rests_then l m n to_m (times_rests Ue m) in
    rests_then l o (pays o) (rests_then l n o to_n (keeps_if (is_keeping n.looping.mode) n)) (pays_rests o)

sleep_rests : (asleep : Bool) (l : Link) → Rests l (tells_sleep asleep l)
sleep_rests true l = says_rests records.Sleep l refl refl refl
sleep_rests false l = unseen_rests l l refl

begins_rests : (l : Link) → Rests l (begins l)
begins_rests l =
    let m : Link = record l { ttis = l.ttis + 1 } in
    rests_then l m (begins l) (unseen_rests l m refl) (says_rests (records.Tti l.ttis) m refl refl refl)

-- what comes before the blocks of a TTI
pub woken_rests : (asleep : Bool) (l : Link) → Rests l (timed (tells_sleep asleep (begins l)))
woken_rests asleep l =
    let m = begins l in
    let n = tells_sleep asleep m in
    rests_then l n (timed n) (rests_then l m n (begins_rests l) (sleep_rests asleep m)) (timed_rests n)

pub grown_rests : (l : Link) → Rests l (grows Ue (grows Nb (begins l)))
grown_rests l =
    let m = begins l in
    let n = grows Nb m in
    rests_then l n (grows Ue n) (rests_then l m n (begins_rests l) (grows_rests Nb m)) (grows_rests Ue n)
