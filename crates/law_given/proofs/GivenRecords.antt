-- Records that tell of one side's bearer of acknowledged data: what is gathered of the channel goes on by its events,
-- one by one, and each is right where they are.
use Rattle.std.proofs.Common.{◌≡◌, ℕ, ◌≤◌, Bool, true, false, not, ◌&&◌, ◌==◌, if◌then◌else◌, List, [], ◌∷◌, ◌++◌}
use Rattle.std.proofs.Common.{map, Option, Some, None, is_some, append-nil, append_assoc, refl, ap, sym, subst, ◌∙◌}
use Rattle.std.specs.List.{AllByRecursion, filter}
use Rattle.std.proofs.lemmas.Bool.{eq-eqb}
use Rattle.air_record.specs.declared.record.Arrived.TheVariants.{Got}
use Rattle.air_record.specs.declared.record.Record.{Record}
use Rattle.air_record.specs.declared.record.Record.TheVariants as records
use Rattle.air_record.specs.declared.submission.Submission.{Submission}
use Rattle.air_record.specs.Submissions.{submitted_by, unrefused}
use Rattle.air_text.specs.Groups.{Group}
use Rattle.bearer_types.specs.Sides.{other, is_same}
use Rattle.bearer_types.specs.declared.event.Event.{Event}
use Rattle.bearer_types.specs.declared.event.Event.TheVariants as events
use Rattle.l2_types.specs.declared.event.Lost.TheVariants as losts
use Rattle.l2_types.specs.declared.side.Side.{Side}
use Rattle.l2_types.specs.declared.side.Side.TheVariants.{Nb, Ue}
use Rattle.promises.specs.Events.{is_on, is_of_loop, told_on}
use Rattle.promises.specs.Flows.{loops_in}
use Rattle.promises.specs.Records.{events_of, is_looped, sdu_of}
use Rattle.journal_flows.specs.FlowsTold.{Histories}
use Rattle.journal_flows.specs.Gathering.{Journal}
use Rattle.journal_flows.specs.Laws.{bearer_on}
use Rattle.journal_given.specs.Giving.{side_of, on_side, may_take_by}
use Rattle.journal_given.specs.Supplies.{Supply, Bearer, History, histories, takes_pdu, takes_report, told}
use Rattle.journal_takes.specs.TakeEvents.{SduDiscarded, SduSubmitted}
use Rattle.law_given.specs.BearerRecords.{IsRightEventOn, IsRightOn, bearer_heard, bearer_first, bearer_before}
use Rattle.law_given.specs.BearerRecords.{left_by, flows_in, has_data}
use Rattle.law_given.specs.OneBearer.{changed_if, bearer_submits, bearer_happens, first_of}
use Rattle.law_given.specs.SupplyLaws.{supplied_by, supplied_all, IsRight, AreRight}
use Rattle.law_given.proofs.BearerRecordsHistories.{first_stands, one_bearer_by_histories}

-- ---- an event

pub same_side : (own : Side) (b : Bearer History) → on_side own (λ (s : Supply History). s) b ≡ b
same_side Nb b = refl
same_side Ue b = refl

other_event : (l : ℕ) (own : Side) (e : Event) (b : Option (Bearer History)) → is_on l e ≡ false
    → bearer_happens histories l own e b ≡ b
other_event l own (events.Take lcid count len) b off =
    ap (λ (x : Bool). changed_if x own (takes_pdu histories count len) b) off
other_event l own (events.Report lcid fms bitmap) b off =
    ap (λ (x : Bool). changed_if x own (takes_report histories fms bitmap) b) off
other_event l own (events.Discard lcid len) b off =
    ap (λ (x : Bool). changed_if x own (told histories SduDiscarded) b) off
other_event l own e b off = refl

own_event : (l : ℕ) (own : Side) (e : Event) (b : Bearer History) → is_on l e ≡ true
    → bearer_happens histories l own e (Some b) ≡ Some (on_side own (supplied_by e) b)
own_event l own (events.Take lcid count len) b on =
    ap (λ (x : Bool). changed_if x own (takes_pdu histories count len) (Some b)) on
own_event l own (events.Report lcid fms bitmap) b on =
    ap (λ (x : Bool). changed_if x own (takes_report histories fms bitmap) (Some b)) on
own_event l own (events.Discard lcid len) b on =
    ap (λ (x : Bool). changed_if x own (told histories SduDiscarded) (Some b)) on
own_event l own e b on = ap (λ (x : Bearer History). Some x) (sym (same_side own b))

-- what the loop drops is none of an end
loop_event : (l : ℕ) (own : Side) (e : Event) (b : Option (Bearer History)) → is_of_loop e ≡ true
    → bearer_happens histories l own e b ≡ b
loop_event l own (events.Drop lcid losts.Loop) b loop = refl
loop_event l own e b loop = absurd cc

other_right : (l : ℕ) (own : Side) (e : Event) (b : Option (Bearer History)) → is_on l e ≡ false
    → IsRightEventOn l own e b
other_right l own (events.Take lcid count len) b off = λ same. let no : true ≡ false = sym (eq-eqb lcid l same) ∙ off in
    absurd cc
other_right l own (events.Report lcid fms bitmap) b off =
    λ same. let no : true ≡ false = sym (eq-eqb lcid l same) ∙ off in absurd cc
other_right l own (events.Discard lcid len) b off = λ same. let no : true ≡ false = sym (eq-eqb lcid l same) ∙ off in
    absurd cc
other_right l own e b off = tt

own_right : (l : ℕ) (own : Side) (e : Event) (b : Bearer History) → IsRight e (side_of own b)
    → IsRightEventOn l own e (Some b)
own_right l own (events.Take lcid count len) b right = λ same. right
own_right l own (events.Report lcid fms bitmap) b right = λ same. right
own_right l own (events.Discard lcid len) b right = λ same. right
own_right l own e b right = tt

loop_right : (l : ℕ) (own : Side) (e : Event) (b : Option (Bearer History)) → is_of_loop e ≡ true
    → IsRightEventOn l own e b
loop_right l own (events.Drop lcid losts.Loop) b loop = tt
loop_right l own e b loop = absurd cc

-- the loop submits one
abbrev submits_one : List ℕ → Supply History → Supply History
submits_one octets = told histories (SduSubmitted octets)

-- one behind the other
own_first : (own : Side) (e : Event) (es : List Event) (b : Bearer History)
    → on_side own (supplied_all es) (on_side own (supplied_by e) b) ≡ on_side own (supplied_all (e ∷ es)) b
own_first Nb e es b = refl
own_first Ue e es b = refl

own_supply : (own : Side) (f : Supply History → Supply History) (b : Bearer History)
    → side_of own (on_side own f b) ≡ f (side_of own b)
own_supply Nb f b = refl
own_supply Ue f b = refl

-- ---- records

-- no block comes
abbrev pub BringsNoBlock : Record → Type 0
BringsNoBlock (records.Air direction Got heard) = ⊥
BringsNoBlock one = Unit {0}

module _ (l : ℕ) (low : l ≤ 10) (newer : List Group) (now : Group) (past : List Group)
    (none : submitted_by now.line ≡ None) where
  pub left_none : (told : List Record) → left_by now.line told ≡ None
  left_none [] = none
  left_none (one ∷ told) = refl

  pub before_is : (told : List Record) (one : Record)
      → bearer_before l now past told one ≡ bearer_first l now past told
  before_is told one =
      ap (λ (sdu : Option Submission). bearer_submits histories l (unrefused one sdu) (bearer_first l now past told))
      (left_none told)

  -- the flows behind records
  abbrev pub journal_at : List Record → Journal Histories
  journal_at told = flows_in (may_take_by histories (newer ++ now ∷ past)) (first_of now told) past

  pub one_behind : (told : List Record) (one : Record) (b : Option (Bearer History)) → bearer_first l now past told ≡ b
      → bearer_first l now past (told ++ one ∷ []) ≡ bearer_heard l one (journal_at (told ++ one ∷ [])) b
  one_behind told one b is =
      (one_bearer_by_histories l newer now past low).goes told one
      ∙ ap (bearer_heard l one (journal_at (told ++ one ∷ []))) (before_is told one ∙ is)

  -- each is right, one behind the other
  abbrev pub AllRight : List Record → List Record → Type 0
  AllRight told [] = Unit {0}
  AllRight told (one ∷ xs) = IsRightOn l one (bearer_before l now past told one) × AllRight (told ++ one ∷ []) xs

  pub record Gathered (side : Side) (told xs : List Record) (es : List Event) (b : Bearer History) : Type 0 where
    pub is : bearer_first l now past (told ++ xs) ≡ Some (on_side side (supplied_all es) b)
    pub right : AllRight told xs

  gathered_next : (side : Side) (told : List Record) (one : Record) (xs : List Record) (es es' : List Event)
      (b b' : Bearer History) → on_side side (supplied_all es') b' ≡ on_side side (supplied_all es) b
      → IsRightOn l one (Some b) → bearer_first l now past told ≡ Some b
      → Gathered side (told ++ one ∷ []) xs es' b' → Gathered side told (one ∷ xs) es b
  gathered_next side told one xs es es' b b' same right is g = record {
    is = ap (bearer_first l now past) (sym (append_assoc told (one ∷ []) xs))
        ∙ (g.is ∙ ap (λ (x : Bearer History). Some x) same);
    right = (subst (IsRightOn l one) (sym (before_is told one ∙ is)) right, g.right);
  }

  -- one that changes nothing
  gathered_same : (side : Side) (told : List Record) (one : Record) (xs : List Record) (es : List Event)
      (b : Bearer History) → bearer_heard l one (journal_at (told ++ one ∷ [])) (Some b) ≡ Some b
      → IsRightOn l one (Some b) → bearer_first l now past told ≡ Some b
      → (bearer_first l now past (told ++ one ∷ []) ≡ Some b → Gathered side (told ++ one ∷ []) xs es b)
      → Gathered side told (one ∷ xs) es b
  gathered_same side told one xs es b stays right is more =
      gathered_next side told one xs es es b b refl right is (more (one_behind told one (Some b) is ∙ stays))

  abbrev Goes : Side → List Record → Type 0
  Goes side xs = (told : List Record) (es : List Event) (b : Bearer History) → told_on l (events_of side xs) ≡ es
      → told_on l (events_of (other side) xs) ≡ [] → loops_in l xs ≡ [] → AllByRecursion BringsNoBlock xs
      → bearer_first l now past told ≡ Some b → AreRight es (side_of side b) → Gathered side told xs es b

  -- an event that counts for the side, or for the other one
  abbrev told_if : Bool → Event → List Event → List Event
  told_if here e es = told_on l ((if here then e ∷ [] else []) ++ es)

  own_goes : (side : Side) (e : Event) (xs : List Record) → Goes side xs → (told : List Record) (es : List Event)
      (b : Bearer History) (on : Bool) → is_on l e ≡ on
      → (if on then e ∷ told_on l (events_of side xs) else told_on l (events_of side xs)) ≡ es
      → told_on l (events_of (other side) xs) ≡ [] → loops_in l xs ≡ [] → AllByRecursion BringsNoBlock xs
      → bearer_first l now past told ≡ Some b → AreRight es (side_of side b)
      → Gathered side told (records.Of side e ∷ xs) es b
  own_goes side e xs more told es b true on es_is far loops blocks is right =
      let rest = told_on l (events_of side xs) in
      let all : AreRight (e ∷ rest) (side_of side b) = subst (λ (zs : List Event). AreRight zs (side_of side b))
      (sym es_is)
      right in
      let b' = on_side side (supplied_by e) b in
      gathered_next side told (records.Of side e) xs es rest b b'
      (own_first side e rest b ∙ ap (λ (zs : List Event). on_side side (supplied_all zs) b) es_is)
      (own_right l side e b all.0) is
      (more (told ++ records.Of side e ∷ []) rest b' refl far loops blocks
      (one_behind told (records.Of side e) (Some b) is ∙ own_event l side e b on)
      (subst (AreRight rest) (sym (own_supply side (supplied_by e) b)) all.1))
  own_goes side e xs more told es b false on es_is far loops blocks is right =
      gathered_same side told (records.Of side e) xs es b (other_event l side e (Some b) on)
      (other_right l side e (Some b) on) is
      (λ now_is. more (told ++ records.Of side e ∷ []) es b es_is far loops blocks now_is right)

  far_goes : (side own : Side) (e : Event) (xs : List Record) → Goes side xs → (told : List Record) (es : List Event)
      (b : Bearer History) (on : Bool) → is_on l e ≡ on → told_on l (events_of side xs) ≡ es
      → (if on then e ∷ told_on l (events_of (other side) xs) else told_on l (events_of (other side) xs)) ≡ []
      → loops_in l xs ≡ [] → AllByRecursion BringsNoBlock xs
      → bearer_first l now past told ≡ Some b → AreRight es (side_of side b)
      → Gathered side told (records.Of own e ∷ xs) es b
  far_goes side own e xs more told es b true on es_is far loops blocks is right = absurd cc
  far_goes side own e xs more told es b false on es_is far loops blocks is right =
      gathered_same side told (records.Of own e) xs es b (other_event l own e (Some b) on)
      (other_right l own e (Some b) on) is
      (λ now_is. more (told ++ records.Of own e ∷ []) es b es_is far loops blocks now_is right)

  event_goes : (side own : Side) (e : Event) (xs : List Record) → Goes side xs → (loop : Bool) → is_of_loop e ≡ loop
      → (told : List Record) (es : List Event) (b : Bearer History)
      → told_if (is_same side own && not loop) e (events_of side xs) ≡ es
      → told_if (is_same (other side) own && not loop) e (events_of (other side) xs) ≡ []
      → loops_in l xs ≡ [] → AllByRecursion BringsNoBlock xs
      → bearer_first l now past told ≡ Some b → AreRight es (side_of side b)
      → Gathered side told (records.Of own e ∷ xs) es b
  event_goes Nb Nb e xs more false loop told es b es_is far loops blocks is right =
      own_goes Nb e xs more told es b (is_on l e) refl es_is far loops blocks is right
  event_goes Ue Ue e xs more false loop told es b es_is far loops blocks is right =
      own_goes Ue e xs more told es b (is_on l e) refl es_is far loops blocks is right
  event_goes Nb Ue e xs more false loop told es b es_is far loops blocks is right =
      far_goes Nb Ue e xs more told es b (is_on l e) refl es_is far loops blocks is right
  event_goes Ue Nb e xs more false loop told es b es_is far loops blocks is right =
      far_goes Ue Nb e xs more told es b (is_on l e) refl es_is far loops blocks is right
  event_goes Nb Nb e xs more true loop told es b es_is far loops blocks is right =
      gathered_same Nb told (records.Of Nb e) xs es b (loop_event l Nb e (Some b) loop)
      (loop_right l Nb e (Some b) loop) is
      (λ now_is. more (told ++ records.Of Nb e ∷ []) es b es_is far loops blocks now_is right)
  event_goes Nb Ue e xs more true loop told es b es_is far loops blocks is right =
      gathered_same Nb told (records.Of Ue e) xs es b (loop_event l Ue e (Some b) loop)
      (loop_right l Ue e (Some b) loop) is
      (λ now_is. more (told ++ records.Of Ue e ∷ []) es b es_is far loops blocks now_is right)
  event_goes Ue Nb e xs more true loop told es b es_is far loops blocks is right =
      gathered_same Ue told (records.Of Nb e) xs es b (loop_event l Nb e (Some b) loop)
      (loop_right l Nb e (Some b) loop) is
      (λ now_is. more (told ++ records.Of Nb e ∷ []) es b es_is far loops blocks now_is right)
  event_goes Ue Ue e xs more true loop told es b es_is far loops blocks is right =
      gathered_same Ue told (records.Of Ue e) xs es b (loop_event l Ue e (Some b) loop)
      (loop_right l Ue e (Some b) loop) is
      (λ now_is. more (told ++ records.Of Ue e ∷ []) es b es_is far loops blocks now_is right)

  loop_goes : (side : Side) (lcid : ℕ) (octets : List ℕ) (xs : List Record) → Goes side xs → (here : Bool)
      → (lcid == l) ≡ here → (told : List Record) (es : List Event) (b : Bearer History)
      → told_on l (events_of side xs) ≡ es → told_on l (events_of (other side) xs) ≡ []
      → map sdu_of (if here then records.Looped lcid octets ∷ filter (is_looped l) xs else filter (is_looped l) xs) ≡ []
      → AllByRecursion BringsNoBlock xs
      → bearer_first l now past told ≡ Some b → AreRight es (side_of side b)
      → Gathered side told (records.Looped lcid octets ∷ xs) es b
  loop_goes side lcid octets xs more true here told es b es_is far loops blocks is right = absurd cc
  loop_goes side lcid octets xs more false here told es b es_is far loops blocks is right =
      gathered_same side told (records.Looped lcid octets) xs es b
      (ap (λ (x : Bool). changed_if x Ue (submits_one octets) (Some b)) here) tt is
      (λ now_is. more (told ++ records.Looped lcid octets ∷ []) es b es_is far loops blocks now_is right)

  pub records_gather : (side : Side) (xs : List Record) → Goes side xs
  records_gather side [] told es b es_is far loops blocks is right = record {
    is = ap (bearer_first l now past) (append-nil told)
        ∙ (is ∙ ap (λ (x : Bearer History). Some x) (sym (same_side side b))
        ∙ ap (λ (zs : List Event). Some (on_side side (supplied_all zs) b)) es_is);
    right = tt;
  }
  records_gather side (records.Of own e ∷ xs) told es b es_is far loops blocks is right =
      event_goes side own e xs (records_gather side xs) (is_of_loop e) refl told es b es_is far loops blocks.1 is right
  records_gather side (records.Looped lcid octets ∷ xs) told es b es_is far loops blocks is right =
      loop_goes side lcid octets xs (records_gather side xs) (lcid == l) refl told es b es_is far loops blocks.1 is
      right
  records_gather side (records.Air direction Got heard ∷ xs) told es b es_is far loops blocks is right = absurd blocks.0
  records_gather side (one ∷ xs) told es b es_is far loops blocks is right =
      gathered_same side told one xs es b refl tt is
      (λ now_is. records_gather side xs (told ++ one ∷ []) es b es_is far loops blocks.1 now_is right)

  -- ---- the loop submits an SDU

  pub record Submitted (told xs : List Record) (sdu : List ℕ) (b : Bearer History) : Type 0 where
    pub is : bearer_first l now past (told ++ xs) ≡ Some (on_side Ue (submits_one sdu) b)
    pub right : AllRight told xs

  abbrev Submits : List Record → Type 0
  Submits xs = (told : List Record) (sdu : List ℕ) (b : Bearer History) → told_on l (events_of Nb xs) ≡ []
      → told_on l (events_of Ue xs) ≡ [] → loops_in l xs ≡ sdu ∷ [] → AllByRecursion BringsNoBlock xs
      → bearer_first l now past told ≡ Some b → Submitted told xs sdu b

  submitted_next : (told : List Record) (one : Record) (xs : List Record) (sdu : List ℕ) (b : Bearer History)
      → bearer_heard l one (journal_at (told ++ one ∷ [])) (Some b) ≡ Some b
      → IsRightOn l one (Some b) → bearer_first l now past told ≡ Some b
      → (bearer_first l now past (told ++ one ∷ []) ≡ Some b → Submitted (told ++ one ∷ []) xs sdu b)
      → Submitted told (one ∷ xs) sdu b
  submitted_next told one xs sdu b stays right is more =
      let s = more (one_behind told one (Some b) is ∙ stays) in
      record {
        is = ap (bearer_first l now past) (sym (append_assoc told (one ∷ []) xs)) ∙ s.is;
        right = (subst (IsRightOn l one) (sym (before_is told one ∙ is)) right, s.right);
      }

  -- an event that no channel's bearer tells there
  none_told : (here on : Bool) (e : Event) (es : List Event) → is_on l e ≡ on
      → told_on l ((if here then e ∷ [] else []) ++ es) ≡ [] → told_on l es ≡ []
  none_told true true e es is none' =
      let no : (if true then e ∷ told_on l es else told_on l es) ≡ [] =
      ap (λ (b : Bool). if b then e ∷ told_on l es else told_on l es) (sym is) ∙ none' in
      absurd cc
  none_told true false e es is none' =
      ap (λ (b : Bool). if b then e ∷ told_on l es else told_on l es) (sym is) ∙ none'
  none_told false on e es is none' = none'

  none_on : (e : Event) (es : List Event) (on : Bool) → is_on l e ≡ on → told_on l (e ∷ es) ≡ [] → is_on l e ≡ false
  none_on e es true is none' =
      let no : (if true then e ∷ told_on l es else told_on l es) ≡ [] =
      ap (λ (b : Bool). if b then e ∷ told_on l es else told_on l es) (sym is) ∙ none' in
      absurd cc
  none_on e es false is none' = is

  stays_by_event : (own : Side) (e : Event) (xs : List Record) (b : Bearer History) (loop : Bool) → is_of_loop e ≡ loop
      → told_if (is_same Nb own && not loop) e (events_of Nb xs) ≡ []
      → told_if (is_same Ue own && not loop) e (events_of Ue xs) ≡ []
      → bearer_happens histories l own e (Some b) ≡ Some b
  stays_by_event own e xs b true is nb ue = loop_event l own e (Some b) is
  stays_by_event Nb e xs b false is nb ue =
      other_event l Nb e (Some b) (none_on e (events_of Nb xs) (is_on l e) refl nb)
  stays_by_event Ue e xs b false is nb ue =
      other_event l Ue e (Some b) (none_on e (events_of Ue xs) (is_on l e) refl ue)

  right_by_event : (own : Side) (e : Event) (xs : List Record) (b : Bearer History) (loop : Bool) → is_of_loop e ≡ loop
      → told_if (is_same Nb own && not loop) e (events_of Nb xs) ≡ []
      → told_if (is_same Ue own && not loop) e (events_of Ue xs) ≡ []
      → IsRightEventOn l own e (Some b)
  right_by_event own e xs b true is nb ue = loop_right l own e (Some b) is
  right_by_event Nb e xs b false is nb ue =
      other_right l Nb e (Some b) (none_on e (events_of Nb xs) (is_on l e) refl nb)
  right_by_event Ue e xs b false is nb ue =
      other_right l Ue e (Some b) (none_on e (events_of Ue xs) (is_on l e) refl ue)

  looped_here : (lcid : ℕ) (octets : List ℕ) (xs : List Record) → Submits xs → (here : Bool) → (lcid == l) ≡ here
      → (told : List Record) (sdu : List ℕ) (b : Bearer History) → told_on l (events_of Nb xs) ≡ []
      → told_on l (events_of Ue xs) ≡ []
      → map sdu_of (if here then records.Looped lcid octets ∷ filter (is_looped l) xs else filter (is_looped l) xs)
      ≡ sdu ∷ [] → AllByRecursion BringsNoBlock xs
      → bearer_first l now past told ≡ Some b → Submitted told (records.Looped lcid octets ∷ xs) sdu b
  looped_here lcid octets xs more true here told sdu b nb ue loops blocks is =
      let same : octets ≡ sdu = cc in
      let rest : loops_in l xs ≡ [] = cc in
      let one = records.Looped lcid octets in
      let b' = on_side Ue (submits_one octets) b in
      let now_is : bearer_first l now past (told ++ one ∷ []) ≡ Some b' =
      one_behind told one (Some b) is ∙ ap (λ (x : Bool). changed_if x Ue (submits_one octets) (Some b)) here in
      let g = records_gather Ue xs (told ++ one ∷ []) [] b' ue nb rest blocks now_is tt in
      record {
        is = ap (bearer_first l now past) (sym (append_assoc told (one ∷ []) xs))
            ∙ (g.is ∙ ap (λ (x : List ℕ). Some (on_side Ue (submits_one x) b)) same);
        right = (tt, g.right);
      }
  looped_here lcid octets xs more false here told sdu b nb ue loops blocks is =
      submitted_next told (records.Looped lcid octets) xs sdu b
      (ap (λ (x : Bool). changed_if x Ue (submits_one octets) (Some b)) here) tt is
      (λ now_is. more (told ++ records.Looped lcid octets ∷ []) sdu b nb ue loops blocks now_is)

  pub loops_gather : (xs : List Record) → Submits xs
  loops_gather [] told sdu b nb ue loops blocks is = absurd cc
  loops_gather (records.Of own e ∷ xs) told sdu b nb ue loops blocks is =
      submitted_next told (records.Of own e) xs sdu b
      (stays_by_event own e xs b (is_of_loop e) refl nb ue)
      (right_by_event own e xs b (is_of_loop e) refl nb ue) is
      (λ now_is. loops_gather xs (told ++ records.Of own e ∷ []) sdu b
      (none_told (is_same Nb own && not (is_of_loop e)) (is_on l e) e (events_of Nb xs) refl nb)
      (none_told (is_same Ue own && not (is_of_loop e)) (is_on l e) e (events_of Ue xs) refl ue) loops blocks.1 now_is)
  loops_gather (records.Looped lcid octets ∷ xs) told sdu b nb ue loops blocks is =
      looped_here lcid octets xs (loops_gather xs) (lcid == l) refl told sdu b nb ue loops blocks.1 is
  loops_gather (records.Air direction Got heard ∷ xs) told sdu b nb ue loops blocks is = absurd blocks.0
  loops_gather (one ∷ xs) told sdu b nb ue loops blocks is =
      submitted_next told one xs sdu b refl tt is
      (λ now_is. loops_gather xs (told ++ one ∷ []) sdu b nb ue loops blocks.1 now_is)

-- ---- where no bearer of acknowledged data stands, none is judged

same_none : (here : Bool) → (let none : Option (Bearer History) = None in (if here then none else none) ≡ none)
same_none true = refl
same_none false = refl

none_submits : (l : ℕ) (s : Option Submission) → bearer_submits histories l s None ≡ None
none_submits l None = refl
none_submits l (Some s) = same_none (s.lcid == l)

none_there : {A : Type 0} (o : Option A) → is_some o ≡ false → o ≡ None
none_there None h = refl
none_there (Some x) h = cc

pub none_before : (l : ℕ) (now : Group) (past : List Group) (told : List Record) (one : Record) → l ≤ 10
    → has_data (bearer_on l (now ∷ past)) ≡ false → bearer_before l now past told one ≡ None
none_before l now past told one low none =
    ap (bearer_submits histories l (unrefused one (left_by now.line told)))
    (none_there (bearer_first l now past told)
    (first_stands l low now past told ∙ none))
    ∙ none_submits l (unrefused one (left_by now.line told))

pub any_right : (l : ℕ) (one : Record) → IsRightOn l one None
any_right l (records.Of side event) = by event
  where
    by : (event : Event) → IsRightEventOn l side event None
    by (events.Take lcid count len) = λ same. tt
    by (events.Report lcid fms bitmap) = λ same. tt
    by (events.Discard lcid len) = λ same. tt
    by event = tt
any_right l one = tt
