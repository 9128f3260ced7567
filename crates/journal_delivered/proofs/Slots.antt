-- What records leave of each direction of each channel.
use Rattle.std.proofs.Common.{◌≡◌, ℕ, ◌-◌, ◌≤◌, Bool, true, false, List, [], ◌∷◌, ◌++◌, length}
use Rattle.std.proofs.Common.{Option, Some, None, inl, inr, refl, ap, sym, ◌∙◌, arith, subst, if◌then◌else◌}
use Rattle.std.proofs.Common.{slice_set, slice_index_or, append-nil, append_assoc}
use Rattle.std.specs.Prelude.{◌&&◌, ◌==◌, not, nat_lt, option_map, map, cond}
use Rattle.std.specs.List.{filter}
use Rattle.std.proofs.lemmas.Bool.{cases_eq, eq-eqb, ne_eqb, false≢true}
use Rattle.std.proofs.lemmas.List.{length-set, get_or-set_same, get_or-set_other}
use Rattle.l2_types.specs.declared.side.Side.{Side}
use Rattle.l2_types.specs.declared.side.Side.TheVariants.{Nb, Ue}
use Rattle.bearer_types.specs.declared.event.Event.{Event}
use Rattle.bearer_types.specs.declared.event.Event.TheVariants.{Take, Discard, Up}
use Rattle.bearer_types.specs.Sides.{is_same, other}
use Rattle.air_record.specs.declared.line.Line.{Line}
use Rattle.air_record.specs.declared.line.Line.TheVariants as lines
use Rattle.air_record.specs.declared.record.Record.{Record}
use Rattle.air_record.specs.declared.record.Record.TheVariants as records
use Rattle.promises.specs.Flows.{is_refused_at_once}
use Rattle.promises.specs.Records.{is_up, sdu_of, ups_in}
use Rattle.journal_takes.specs.TakeEvents.{TakeEvent, SduSubmitted, SduDiscarded, PduTaken}
use Rattle.journal_delivered.specs.RightDelivery.{record_tells, records_tell}
use Rattle.air_record.specs.declared.submission.Submission.{Submission}
use Rattle.air_record.specs.Submissions.{refuses, submitted_by, unrefused}
use Rattle.journal_delivered.specs.DeliveryChecking.{AwaitedSdus, Checking}
use Rattle.journal_delivered.specs.DeliveryChecking.{with_sdu, with_taken, with_discarded, with_up}
use Rattle.journal_delivered.specs.DeliveryChecking.{changed_on, changed, after_event, record_told}
use Rattle.journal_delivered.specs.DeliveryChecking.{released, checked}
use Rattle.journal_delivered.proofs.Lists.{Sdus}
use Rattle.journal_delivered.proofs.Awaiting.{Follows, judged_sdu, judged_taken, judged_discarded, follows_up}

-- ---- by side and channel

abbrev pub channels_of : Side → Checking → List (Option AwaitedSdus)
channels_of Nb c = c.nb
channels_of Ue c = c.ue

abbrev pub slot_at : Side → ℕ → Checking → Option AwaitedSdus
slot_at side l c = slice_index_or (channels_of side c) l None

abbrev pub Sizes : Checking → Type 0
Sizes c = (side : Side) → length (channels_of side c) ≡ 11

pub placed : (lcid l : ℕ) (x : Option AwaitedSdus) (ss : List (Option AwaitedSdus)) → length ss ≡ 11 → l ≤ 10
    → slice_index_or (slice_set ss lcid x) l None ≡ (if lcid == l then x else slice_index_or ss l None)
placed lcid l x ss size low = elim (cases_eq l lcid) [
  | inl here ↦
      ap (λ (n : ℕ). slice_index_or (slice_set ss n x) l None) (sym here)
      ∙ get_or-set_same ss l x None (omega (arith, size, low))
      ∙ ap (λ (b : Bool). if b then x else slice_index_or ss l None) (sym (eq-eqb lcid l (sym here)))
  | inr apart ↦
      get_or-set_other ss lcid l x None apart
      ∙ ap (λ (b : Bool). if b then x else slice_index_or ss l None)
      (sym (ne_eqb lcid l (λ same. apart (sym same))))
]

on_channel : (lcid l : ℕ) (f : AwaitedSdus → AwaitedSdus) (ss : List (Option AwaitedSdus)) → length ss ≡ 11 → l ≤ 10
    → slice_index_or (changed_on lcid f ss) l None
    ≡ (if lcid == l then option_map f (slice_index_or ss l None) else slice_index_or ss l None)
on_channel lcid l f ss size low = elim (cases_eq l lcid) [
  | inl here ↦
      ap (λ (n : ℕ). slice_index_or (slice_set ss n (option_map f (slice_index_or ss n None))) l None) (sym here)
      ∙ get_or-set_same ss l (option_map f (slice_index_or ss l None)) None (omega (arith, size, low))
      ∙ ap (λ (b : Bool). if b then option_map f (slice_index_or ss l None) else slice_index_or ss l None)
      (sym (eq-eqb lcid l (sym here)))
  | inr apart ↦
      get_or-set_other ss lcid l (option_map f (slice_index_or ss lcid None)) None apart
      ∙ ap (λ (b : Bool). if b then option_map f (slice_index_or ss l None) else slice_index_or ss l None)
      (sym (ne_eqb lcid l (λ same. apart (sym same))))
]

picked : (b : Bool) (f : AwaitedSdus → AwaitedSdus) (x : Option AwaitedSdus)
    → (if b then option_map f x else x) ≡ option_map (λ a. if b then f a else a) x
picked true f None = refl
picked true f (Some a) = refl
picked false f None = refl
picked false f (Some a) = refl

same_option : (x : Option AwaitedSdus) → x ≡ option_map (λ a. a) x
same_option None = refl
same_option (Some a) = refl

pub changed_at : (s side : Side) (lcid l : ℕ) (f : AwaitedSdus → AwaitedSdus) (c : Checking) → Sizes c → l ≤ 10
    → slot_at s l (changed side lcid f c)
    ≡ option_map (λ a. if is_same s side && (lcid == l) then f a else a) (slot_at s l c)
changed_at Nb Nb lcid l f c size low =
    on_channel lcid l f c.nb (size Nb) low ∙ picked (lcid == l) f (slot_at Nb l c)
changed_at Nb Ue lcid l f c size low = same_option (slot_at Nb l c)
changed_at Ue Nb lcid l f c size low = same_option (slot_at Ue l c)
changed_at Ue Ue lcid l f c size low =
    on_channel lcid l f c.ue (size Ue) low ∙ picked (lcid == l) f (slot_at Ue l c)

pub changed_sizes : (side : Side) (lcid : ℕ) (f : AwaitedSdus → AwaitedSdus) (c : Checking) → Sizes c
    → Sizes (changed side lcid f c)
changed_sizes Nb lcid f c size Nb =
    length-set c.nb lcid (option_map f (slice_index_or c.nb lcid None)) ∙ size Nb
changed_sizes Nb lcid f c size Ue = size Ue
changed_sizes Ue lcid f c size Nb = size Nb
changed_sizes Ue lcid f c size Ue =
    length-set c.ue lcid (option_map f (slice_index_or c.ue lcid None)) ∙ size Ue

-- ---- a record

abbrev pub heard : Side → ℕ → Record → AwaitedSdus → AwaitedSdus
heard s l (records.Of side (Take lcid (Some count) len)) a =
    if is_same s side && (lcid == l) then with_taken count a else a
heard s l (records.Of side (Discard lcid len)) a =
    if is_same s side && (lcid == l) then with_discarded a else a
heard s l (records.Of side (Up lcid octets)) a =
    if is_same s (other side) && (lcid == l) then with_up octets a else a
heard s l (records.Looped lcid octets) a = if is_same s Ue && (lcid == l) then with_sdu octets a else a
heard s l one a = a

abbrev pub all_heard : Side → ℕ → List Record → AwaitedSdus → AwaitedSdus
all_heard s l [] a = a
all_heard s l (one ∷ told) a = all_heard s l told (heard s l one a)

event_sizes : (side : Side) (event : Event) (c : Checking) → Sizes c → Sizes (after_event side event c)
event_sizes side (Take lcid (Some count) len) c size = changed_sizes side lcid (with_taken count) c size
event_sizes side (Discard lcid len) c size = changed_sizes side lcid with_discarded c size
event_sizes side (Up lcid octets) c size = changed_sizes (other side) lcid (with_up octets) c size
event_sizes side event c size = size

record_sizes : (one : Record) (c : Checking) → Sizes c → Sizes (record_told one c)
record_sizes (records.Of side event) c size = event_sizes side event c size
record_sizes (records.Looped lcid octets) c size = changed_sizes Ue lcid (with_sdu octets) c size
record_sizes one c size = size

event_at : (s side : Side) (event : Event) (l : ℕ) (c : Checking) → Sizes c → l ≤ 10
    → slot_at s l (after_event side event c) ≡ option_map (heard s l (records.Of side event)) (slot_at s l c)
event_at s side (Take lcid (Some count) len) l c size low = changed_at s side lcid l (with_taken count) c size low
event_at s side (Discard lcid len) l c size low = changed_at s side lcid l with_discarded c size low
event_at s side (Up lcid octets) l c size low = changed_at s (other side) lcid l (with_up octets) c size low
event_at s side event l c size low = same_option (slot_at s l c)

record_at : (s : Side) (one : Record) (l : ℕ) (c : Checking) → Sizes c → l ≤ 10
    → slot_at s l (record_told one c) ≡ option_map (heard s l one) (slot_at s l c)
record_at s (records.Of side event) l c size low = event_at s side event l c size low
record_at s (records.Looped lcid octets) l c size low = changed_at s Ue lcid l (with_sdu octets) c size low
record_at s one l c size low = same_option (slot_at s l c)

map_twice : (f g : AwaitedSdus → AwaitedSdus) (x : Option AwaitedSdus)
    → option_map f (option_map g x) ≡ option_map (λ a. f (g a)) x
map_twice f g None = refl
map_twice f g (Some a) = refl

-- what records tell, but for the SDU of the group's line
abbrev pub all_told : List Record → Checking → Checking
all_told [] c = c
all_told (one ∷ told) c = all_told told (record_told one c)

pub told_sizes : (told : List Record) (c : Checking) → Sizes c → Sizes (all_told told c)
told_sizes [] c size = size
told_sizes (one ∷ told) c size = told_sizes told (record_told one c) (record_sizes one c size)

pub told_at : (s : Side) (told : List Record) (l : ℕ) (c : Checking) → Sizes c → l ≤ 10
    → slot_at s l (all_told told c) ≡ option_map (all_heard s l told) (slot_at s l c)
told_at s [] l c size low = same_option (slot_at s l c)
told_at s (one ∷ told) l c size low =
    told_at s told l (record_told one c) (record_sizes one c size) low
    ∙ ap (option_map (all_heard s l told)) (record_at s one l c size low)
    ∙ map_twice (all_heard s l told) (heard s l one) (slot_at s l c)

-- ---- what stays

pub record Stays (c d : Checking) : Type 0 where
  pub right : d.right ≡ c.right
  pub submitted : d.submitted ≡ c.submitted

changed_stays : (side : Side) (lcid : ℕ) (f : AwaitedSdus → AwaitedSdus) (c : Checking)
    → Stays c (changed side lcid f c)
changed_stays Nb lcid f c = record { right = refl; submitted = refl }
changed_stays Ue lcid f c = record { right = refl; submitted = refl }

event_stays : (side : Side) (event : Event) (c : Checking) → Stays c (after_event side event c)
event_stays side (Take lcid (Some count) len) c = changed_stays side lcid (with_taken count) c
event_stays side (Discard lcid len) c = changed_stays side lcid with_discarded c
event_stays side (Up lcid octets) c = changed_stays (other side) lcid (with_up octets) c
event_stays side event c = record { right = refl; submitted = refl }

record_stays : (one : Record) (c : Checking) → Stays c (record_told one c)
record_stays (records.Of side event) c = event_stays side event c
record_stays (records.Looped lcid octets) c = changed_stays Ue lcid (with_sdu octets) c
record_stays one c = record { right = refl; submitted = refl }

pub told_stays : (told : List Record) (c : Checking) → Stays c (all_told told c)
told_stays [] c = record { right = refl; submitted = refl }
told_stays (one ∷ told) c =
    let first = record_stays one c in
    let more = told_stays told (record_told one c) in
    record { right = more.right ∙ first.right; submitted = more.submitted ∙ first.submitted }

-- ---- the SDU of the group's line

-- what the group's records leave of it
abbrev pub left_of : List Record → Option Submission → Option Submission
left_of [] sdu = sdu
left_of (one ∷ told) sdu = unrefused one sdu

pub record Releases (c d : Checking) : Type 0 where
  pub right : d.right ≡ c.right
  pub submitted : d.submitted ≡ None

pub releases : (sdu : Option Submission) (c : Checking) → Releases c (released sdu c)
releases None c = record { right = refl; submitted = refl }
releases (Some s) c =
    let x = changed_stays s.side s.lcid (with_sdu s.octets) (record c { submitted = None }) in
    record { right = x.right; submitted = x.submitted }

none_released : (sdu : Option Submission) (c : Checking) → sdu ≡ None → c.submitted ≡ None → released sdu c ≡ c
none_released sdu c e f =
    ap (λ (o : Option Submission). released o c) e
    ∙ ap (λ (o : Option Submission). record c { submitted = o }) (sym f)

plain : (told : List Record) (c : Checking) → c.submitted ≡ None → checked told c ≡ all_told told c
plain [] c e = refl
plain (one ∷ told) c e =
    ap (λ (d : Checking). checked told (record_told one d))
    (none_released (unrefused one c.submitted) c (ap (unrefused one) e) e)
    ∙ plain told (record_told one c) ((record_stays one c).submitted ∙ e)

settled_told : (told : List Record) (c : Checking) → c.submitted ≡ None
    → released (checked told c).submitted (checked told c) ≡ all_told told c
settled_told told c e =
    ap (λ (d : Checking). released d.submitted d) (plain told c e)
    ∙ (
    let none : (all_told told c).submitted ≡ None = (told_stays told c).submitted ∙ e in
    none_released (all_told told c).submitted (all_told told c) none none)

-- it is submitted before the records, unless the first of them refuses it
pub settles_first : (told : List Record) (c : Checking)
    → released (checked told c).submitted (checked told c) ≡ all_told told (released (left_of told c.submitted) c)
settles_first [] c = refl
settles_first (one ∷ told) c =
    let d = released (unrefused one c.submitted) c in
    settled_told told (record_told one d)
    ((record_stays one d).submitted ∙ (releases (unrefused one c.submitted) c).submitted)

abbrev pub given_by : Side → ℕ → Line → List Record → AwaitedSdus → AwaitedSdus
given_by from l (lines.Submit side lcid octets) told a =
    if is_same side from && (not (is_refused_at_once side lcid told) && (lcid == l)) then with_sdu octets a else a
given_by from l line told a = a

-- nothing is submitted
none_at : (s : Side) (l : ℕ) (c : Checking) → slot_at s l (released None c) ≡ option_map (λ a. a) (slot_at s l c)
none_at Nb l c = same_option (slot_at Nb l c)
none_at Ue l c = same_option (slot_at Ue l c)

none_sizes : (c : Checking) → Sizes c → Sizes (released None c)
none_sizes c size Nb = size Nb
none_sizes c size Ue = size Ue

pub released_sizes : (sdu : Option Submission) (c : Checking) → Sizes c → Sizes (released sdu c)
released_sizes None c size = none_sizes c size
released_sizes (Some s) c size =
    changed_sizes s.side s.lcid (with_sdu s.octets) (released None c) (none_sizes c size)

sides_same : (a b : Side) → is_same a b ≡ is_same b a
sides_same Nb Nb = refl
sides_same Nb Ue = refl
sides_same Ue Nb = refl
sides_same Ue Ue = refl

and_false : (b : Bool) → (b && false) ≡ false
and_false true = refl
and_false false = refl

same_slots : (s : Side) (l : ℕ) (c : Checking) → slot_at s l (released None c) ≡ slot_at s l c
same_slots Nb l c = refl
same_slots Ue l c = refl

pub own_at : (s : Side) (line : Line) (told : List Record) (l : ℕ) (c : Checking) → Sizes c → l ≤ 10
    → slot_at s l (released (left_of told (submitted_by line)) c)
    ≡ option_map (given_by s l line told) (slot_at s l c)
own_at s (lines.Submit side lcid octets) told l c size low = by told
  where
    own : Option Submission
    own = Some (record { side = side; lcid = lcid; octets = octets })

    gives : Bool → AwaitedSdus → AwaitedSdus
    gives refused a = if is_same side s && (not refused && (lcid == l)) then with_sdu octets a else a

    submits : slot_at s l (released own c) ≡ option_map (gives false) (slot_at s l c)
    submits =
        changed_at s side lcid l (with_sdu octets) (released None c) (none_sizes c size) low
        ∙ ap (option_map (λ (a : AwaitedSdus). if is_same s side && (lcid == l) then with_sdu octets a else a))
        (same_slots s l c)
        ∙ ap (λ (b : Bool). option_map (λ (a : AwaitedSdus). if b && (lcid == l) then with_sdu octets a else a)
        (slot_at s l c)) (sides_same s side)

    first : (refused : Bool)
        → slot_at s l (released (if refused then None else own) c) ≡ option_map (gives refused) (slot_at s l c)
    first true = none_at s l c
        ∙ ap (λ (b : Bool). option_map (λ (a : AwaitedSdus). if b then with_sdu octets a else a) (slot_at s l c))
        (sym (and_false (is_same side s)))
    first false = submits

    by : (told : List Record) → slot_at s l (released (left_of told own) c)
        ≡ option_map (given_by s l (lines.Submit side lcid octets) told) (slot_at s l c)
    by [] = submits
    by (one ∷ told) = first (refuses side lcid one)
own_at s line [] l c size low = none_at s l c
own_at s line (one ∷ told) l c size low = none_at s l c

-- ---- what is kept follows what is told

pub follows_sdu : (first : ℕ) (es : List TakeEvent) (ups : Sdus) (own : List ℕ) (a : AwaitedSdus)
    → Follows first es ups a → Follows first (SduSubmitted own ∷ es) ups (with_sdu own a)
follows_sdu first es ups own a f = record {
  done = f.done;
  ups_are = f.ups_are ∙ ap (λ (us : Sdus). f.done ++ us) (early (nat_lt (length a.taken) (a.next - a.low)));
  judged = judged_sdu first es f.done own a f.judged;
}
  where
    early : (b : Bool) → a.early ≡ (if b
        then record a { taken = a.taken ++ own ∷ [] } else record a { waiting = a.waiting ++ own ∷ [] }).early
    early true = refl
    early false = refl

no_more : (first : ℕ) (es : List TakeEvent) (ups : Sdus) (a : AwaitedSdus) → Follows first es ups a
    → Follows first es (ups ++ []) a
no_more first es ups a f = subst (λ (us : Sdus). Follows first es us a) (sym (append-nil ups)) f

crossed : (a b : Side) → is_same a (other b) ≡ is_same (other a) b
crossed Nb Nb = refl
crossed Nb Ue = refl
crossed Ue Nb = refl
crossed Ue Ue = refl

follows_event : (from : Side) (l first : ℕ) (side : Side) (event : Event) (es : List TakeEvent)
    (ups : Sdus) (a : AwaitedSdus) → Follows first es ups a
    → Follows first (record_tells from l (records.Of side event) ++ es)
    (ups ++ ups_in (other from) l (records.Of side event ∷ [])) (heard from l (records.Of side event) a)
follows_event from l first side (Take lcid (Some count) len) es ups a f = by (is_same from side) (lcid == l)
  where
    by : (b c : Bool) → Follows first ((if b then (if c then PduTaken count ∷ [] else []) else []) ++ es) (ups ++ [])
        (if b && c then with_taken count a else a)
    by true true = no_more first (PduTaken count ∷ es) ups (with_taken count a)
        (record { done = f.done; ups_are = f.ups_are; judged = judged_taken first es f.done count a f.judged })
    by true false = no_more first es ups a f
    by false c = no_more first es ups a f
follows_event from l first side (Discard lcid len) es ups a f = by (is_same from side) (lcid == l)
  where
    by : (b c : Bool) → Follows first ((if b then (if c then SduDiscarded ∷ [] else []) else []) ++ es) (ups ++ [])
        (if b && c then with_discarded a else a)
    by true true = no_more first (SduDiscarded ∷ es) ups (with_discarded a)
        (record { done = f.done; ups_are = f.ups_are; judged = judged_discarded first es f.done a f.judged })
    by true false = no_more first es ups a f
    by false c = no_more first es ups a f
follows_event from l first side (Up lcid octets) es ups a f =
    by (is_same from side) (is_same from (other side)) (is_same (other from) side) (crossed from side) (lcid == l)
  where
    by : (t b d : Bool) → b ≡ d → (c : Bool) → Follows first ((if t then [] else []) ++ es)
        (ups ++ map sdu_of (cond (d && c) (records.Of side (Up lcid octets) ∷ []) []))
        (if b && c then with_up octets a else a)
    by true true true e true = follows_up first es ups octets a f
    by false true true e true = follows_up first es ups octets a f
    by true true true e false = no_more first es ups a f
    by false true true e false = no_more first es ups a f
    by true false false e c = no_more first es ups a f
    by false false false e c = no_more first es ups a f
    by t true false e c = absurd (false≢true (sym e))
    by t false true e c = absurd (false≢true e)
follows_event from l first side event es ups a f = by (is_same from side)
  where
    by : (b : Bool) → Follows first ((if b then [] else []) ++ es) (ups ++ []) a
    by true = no_more first es ups a f
    by false = no_more first es ups a f

follows_loop : (from : Side) (l first lcid : ℕ) (octets : List ℕ) (es : List TakeEvent) (ups : Sdus) (a : AwaitedSdus)
    → Follows first es ups a
    → Follows first (record_tells from l (records.Looped lcid octets) ++ es) (ups ++ [])
    (heard from l (records.Looped lcid octets) a)
follows_loop Nb l first lcid octets es ups a f = no_more first es ups a f
follows_loop Ue l first lcid octets es ups a f = by (lcid == l)
  where
    by : (b : Bool) → Follows first ((if b then SduSubmitted octets ∷ [] else []) ++ es) (ups ++ [])
        (if b then with_sdu octets a else a)
    by true = no_more first (SduSubmitted octets ∷ es) ups (with_sdu octets a) (follows_sdu first es ups octets a f)
    by false = no_more first es ups a f

follows_record : (from : Side) (l first : ℕ) (one : Record) (es : List TakeEvent) (ups : Sdus) (a : AwaitedSdus)
    → Follows first es ups a
    → Follows first (record_tells from l one ++ es) (ups ++ ups_in (other from) l (one ∷ []))
    (heard from l one a)
follows_record from l first (records.Of side event) es ups a f = follows_event from l first side event es ups a f
follows_record from l first (records.Looped lcid octets) es ups a f = follows_loop from l first lcid octets es ups a f
follows_record Nb l first one es ups a f = no_more first es ups a f
follows_record Ue l first one es ups a f = no_more first es ups a f

-- ---- records

ups_step : (side : Side) (l : ℕ) (one : Record) (told : List Record)
    → ups_in side l (one ∷ []) ++ ups_in side l told ≡ ups_in side l (one ∷ told)
ups_step side l one told = by (is_up side l one)
  where
    by : (b : Bool) → map sdu_of (cond b (one ∷ []) []) ++ map sdu_of (filter (is_up side l) told)
        ≡ map sdu_of (cond b (one ∷ filter (is_up side l) told) (filter (is_up side l) told))
    by true = refl
    by false = refl

pub follows_records : (from : Side) (l first : ℕ) (told : List Record) (es : List TakeEvent) (ups : Sdus)
    (a : AwaitedSdus) → Follows first es ups a
    → Follows first (records_tell from l told es) (ups ++ ups_in (other from) l told) (all_heard from l told a)
follows_records from l first [] es ups a f = no_more first es ups a f
follows_records from l first (one ∷ told) es ups a f =
    subst (λ (us : Sdus). Follows first (records_tell from l (one ∷ told) es) us (all_heard from l (one ∷ told) a))
    (append_assoc ups (ups_in (other from) l (one ∷ [])) (ups_in (other from) l told)
    ∙ ap (λ (us : Sdus). ups ++ us) (ups_step (other from) l one told))
    (follows_records from l first told (record_tells from l one ++ es) (ups ++ ups_in (other from) l (one ∷ []))
    (heard from l one a) (follows_record from l first one es ups a f))
