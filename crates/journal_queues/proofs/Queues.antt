-- What records, lines and the ends of groups leave of each queue.
use Rattle.std.proofs.Common.{◌≡◌, ℕ, ◌≤◌, Bool, true, false, List, [], ◌∷◌, ◌++◌, length, map}
use Rattle.std.proofs.Common.{Option, Some, None, inl, inr, refl, ap, sym, ◌∙◌, arith, if◌then◌else◌}
use Rattle.std.proofs.Common.{slice_set, slice_index_or}
use Rattle.std.specs.Prelude.{◌&&◌, not, ◌==◌, cond}
use Rattle.std.proofs.lemmas.Bool.{cases_eq, eq-eqb, ne_eqb}
use Rattle.std.proofs.lemmas.List.{length-set, get_or-set_same, get_or-set_other, get_or-map, length-map}
use Rattle.l2_types.specs.declared.side.Side.{Side}
use Rattle.l2_types.specs.declared.side.Side.TheVariants.{Nb, Ue}
use Rattle.bearer_types.specs.declared.event.Event.{Event}
use Rattle.bearer_types.specs.declared.event.Event.TheVariants.{Take, Discard}
use Rattle.bearer_types.specs.Sides.{is_same}
use Rattle.air_record.specs.declared.line.Line.{Line}
use Rattle.air_record.specs.declared.line.Line.TheVariants as lines
use Rattle.air_record.specs.declared.record.Record.{Record}
use Rattle.air_record.specs.declared.record.Record.TheVariants as records
use Rattle.air_record.specs.Submissions.{refuses}
use Rattle.promises.specs.Events.{is_of_loop}
use Rattle.promises.specs.Flows.{is_refused_at_once, handed_in, looped_at}
use Rattle.promises.specs.Parts.{part_of_line}
use Rattle.promises.specs.Records.{sdu_of, event_of}
use Rattle.promises.specs.Taken.{length_in, lengths_on}
use Rattle.journal_queues.specs.declared.checker.Submitted.{Submitted}
use Rattle.journal_queues.specs.Leaving.{Queue, no_bearer, queue_told, queue_given, handed_over, begun_as}
use Rattle.journal_queues.specs.QueueChecking.{Checking, changed_on, changed, after_event, record_told}
use Rattle.journal_queues.specs.QueueChecking.{submitted_by, unrefused, released, queues_by, after_line, checked}

-- ---- by side and channel

abbrev pub queues_of : Side → Checking → List Queue
queues_of Nb c = c.nb
queues_of Ue c = c.ue

abbrev pub queue_at : Side → ℕ → Checking → Queue
queue_at side l c = slice_index_or (queues_of side c) l no_bearer

abbrev pub Sizes : Checking → Type 0
Sizes c = (side : Side) → length (queues_of side c) ≡ 11

on_channel : (lcid l : ℕ) (f : Queue → Queue) (qs : List Queue) → length qs ≡ 11 → l ≤ 10
    → slice_index_or (changed_on lcid f qs) l no_bearer
    ≡ (if lcid == l then f (slice_index_or qs l no_bearer) else slice_index_or qs l no_bearer)
on_channel lcid l f qs size low = elim (cases_eq l lcid) [
  | inl here ↦
      ap (λ (n : ℕ). slice_index_or (slice_set qs n (f (slice_index_or qs n no_bearer))) l no_bearer) (sym here)
      ∙ get_or-set_same qs l (f (slice_index_or qs l no_bearer)) no_bearer (omega (arith, size, low))
      ∙ ap (λ (b : Bool). if b then f (slice_index_or qs l no_bearer) else slice_index_or qs l no_bearer)
      (sym (eq-eqb lcid l (sym here)))
  | inr apart ↦
      get_or-set_other qs lcid l (f (slice_index_or qs lcid no_bearer)) no_bearer apart
      ∙ ap (λ (b : Bool). if b then f (slice_index_or qs l no_bearer) else slice_index_or qs l no_bearer)
      (sym (ne_eqb lcid l (λ same. apart (sym same))))
]

pub changed_at : (s side : Side) (lcid l : ℕ) (f : Queue → Queue) (c : Checking) → Sizes c → l ≤ 10
    → queue_at s l (changed side lcid f c)
    ≡ (if is_same s side && (lcid == l) then f (queue_at s l c) else queue_at s l c)
changed_at Nb Nb lcid l f c size low = on_channel lcid l f c.nb (size Nb) low
changed_at Nb Ue lcid l f c size low = refl
changed_at Ue Nb lcid l f c size low = refl
changed_at Ue Ue lcid l f c size low = on_channel lcid l f c.ue (size Ue) low

pub changed_sizes : (side : Side) (lcid : ℕ) (f : Queue → Queue) (c : Checking) → Sizes c
    → Sizes (changed side lcid f c)
changed_sizes Nb lcid f c size Nb = length-set c.nb lcid (f (slice_index_or c.nb lcid no_bearer)) ∙ size Nb
changed_sizes Nb lcid f c size Ue = size Ue
changed_sizes Ue lcid f c size Nb = size Nb
changed_sizes Ue lcid f c size Ue = length-set c.ue lcid (f (slice_index_or c.ue lcid no_bearer)) ∙ size Ue

-- ---- what else is kept is the same behind a change of queues

pub record SameElse (a b : Checking) : Type 0 where
  pub right : a.right ≡ b.right
  pub forged : a.forged ≡ b.forged
  pub submitted : a.submitted ≡ b.submitted

pub changed_else : (side : Side) (lcid : ℕ) (f : Queue → Queue) (c : Checking) → SameElse (changed side lcid f c) c
changed_else Nb lcid f c = record { right = refl; forged = refl; submitted = refl }
changed_else Ue lcid f c = record { right = refl; forged = refl; submitted = refl }

-- ---- records that tell of SDUs

abbrev pub all_told : List ℕ → Queue → Queue
all_told [] q = q
all_told (n ∷ ns) q = all_told ns (queue_told n q)

abbrev pub all_submitted : List ℕ → Queue → Queue
all_submitted [] q = q
all_submitted (n ∷ ns) q = all_submitted ns (queue_given n q)

-- those of the test loop, by their lengths
abbrev pub lens_looped : Side → ℕ → List Record → List ℕ
lens_looped s l told = map (λ sdu. length sdu) (looped_at s l told)

on_it : (k : Bool) (len : ℕ) (q : Queue)
    → (if k then queue_told len q else q) ≡ all_told ((if k then len ∷ [] else []) ++ []) q
on_it true len q = refl
on_it false len q = refl

told_in : (e : Event) (lcid l len : ℕ) → length_in l e ≡ (if lcid == l then len ∷ [] else []) → (b : Bool) (q : Queue)
    → (if b && (lcid == l) then queue_told len q else q) ≡ all_told (lengths_on l (if b then e ∷ [] else [])) q
told_in e lcid l len is true q =
    on_it (lcid == l) len q ∙ ap (λ (ns : List ℕ). all_told (ns ++ []) q) (sym is)
told_in e lcid l len is false q = refl

untold : (e : Event) (l : ℕ) → length_in l e ≡ [] → (b : Bool) (q : Queue)
    → q ≡ all_told (lengths_on l (if b then e ∷ [] else [])) q
untold e l is true q = ap (λ (ns : List ℕ). all_told (ns ++ []) q) (sym is)
untold e l is false q = refl

and_true : (b : Bool) → b ≡ (b && true)
and_true true = refl
and_true false = refl

event_at : (s side : Side) (event : Event) (l : ℕ) (c : Checking) → Sizes c → l ≤ 10
    → queue_at s l (after_event side event c)
    ≡ all_told (lengths_on l (event_of s (records.Of side event))) (queue_at s l c)
event_at s side (Take lcid count len) l c size low =
    changed_at s side lcid l (queue_told len) c size low
    ∙ told_in (Take lcid count len) lcid l len refl (is_same s side) (queue_at s l c)
    ∙ ap (λ (b : Bool). all_told (lengths_on l (if b then Take lcid count len ∷ [] else [])) (queue_at s l c))
    (and_true (is_same s side))
event_at s side (Discard lcid len) l c size low =
    changed_at s side lcid l (queue_told len) c size low
    ∙ told_in (Discard lcid len) lcid l len refl (is_same s side) (queue_at s l c)
    ∙ ap (λ (b : Bool). all_told (lengths_on l (if b then Discard lcid len ∷ [] else [])) (queue_at s l c))
    (and_true (is_same s side))
event_at s side event l c size low =
    untold event l refl (is_same s side && not (is_of_loop event)) (queue_at s l c)

event_sizes : (side : Side) (event : Event) (c : Checking) → Sizes c → Sizes (after_event side event c)
event_sizes side (Take lcid count len) c size = changed_sizes side lcid (queue_told len) c size
event_sizes side (Discard lcid len) c size = changed_sizes side lcid (queue_told len) c size
event_sizes side event c size = size

event_else : (side : Side) (event : Event) (c : Checking) → SameElse (after_event side event c) c
event_else side (Take lcid count len) c = changed_else side lcid (queue_told len) c
event_else side (Discard lcid len) c = changed_else side lcid (queue_told len) c
event_else side event c = record { right = refl; forged = refl; submitted = refl }

gives : (b : Bool) (octets : List ℕ) (q : Queue)
    → (if b then queue_given (length octets) q else q)
    ≡ all_submitted (map (λ sdu. length sdu) (if b then octets ∷ [] else [])) q
gives true octets q = refl
gives false octets q = refl

loop_is : (b : Bool) (lcid : ℕ) (octets : List ℕ) (q : Queue)
    → (if b then queue_given (length octets) q else q)
    ≡ all_submitted (map (λ sdu. length sdu) (map sdu_of (cond b (records.Looped lcid octets ∷ []) []))) q
loop_is true lcid octets q = refl
loop_is false lcid octets q = refl

-- what a record leaves of a queue
abbrev pub heard : Side → ℕ → Record → Queue → Queue
heard s l one q = all_submitted (lens_looped s l (one ∷ [])) (all_told (lengths_on l (event_of s one)) q)

pub record_at : (s : Side) (one : Record) (l : ℕ) (c : Checking) → Sizes c → l ≤ 10
    → queue_at s l (record_told one c) ≡ heard s l one (queue_at s l c)
record_at Nb (records.Of side event) l c size low = event_at Nb side event l c size low
record_at Ue (records.Of side event) l c size low = event_at Ue side event l c size low
record_at Nb (records.Looped lcid octets) l c size low =
    changed_at Nb Ue lcid l (queue_given (length octets)) c size low
record_at Ue (records.Looped lcid octets) l c size low =
    changed_at Ue Ue lcid l (queue_given (length octets)) c size low
    ∙ loop_is (lcid == l) lcid octets (queue_at Ue l c)
record_at Nb one l c size low = refl
record_at Ue one l c size low = refl

pub record_sizes : (one : Record) (c : Checking) → Sizes c → Sizes (record_told one c)
record_sizes (records.Of side event) c size = event_sizes side event c size
record_sizes (records.Looped lcid octets) c size = changed_sizes Ue lcid (queue_given (length octets)) c size
record_sizes one c size = size

record_else : (one : Record) (c : Checking) → SameElse (record_told one c) c
record_else (records.Of side event) c = event_else side event c
record_else (records.Looped lcid octets) c = changed_else Ue lcid (queue_given (length octets)) c
record_else one c = record { right = refl; forged = refl; submitted = refl }

-- what records tell, but for the SDU of the group's line
abbrev pub all_records : List Record → Checking → Checking
all_records [] c = c
all_records (one ∷ told) c = all_records told (record_told one c)

pub records_sizes : (told : List Record) (c : Checking) → Sizes c → Sizes (all_records told c)
records_sizes [] c size = size
records_sizes (one ∷ told) c size = records_sizes told (record_told one c) (record_sizes one c size)

pub records_else : (told : List Record) (c : Checking) → SameElse (all_records told c) c
records_else [] c = record { right = refl; forged = refl; submitted = refl }
records_else (one ∷ told) c =
    let first = record_else one c in
    let more = records_else told (record_told one c) in
    record {
      right = more.right ∙ first.right;
      forged = more.forged ∙ first.forged;
      submitted = more.submitted ∙ first.submitted;
    }

-- ---- the SDU of the group's line

-- what the group's records leave of it
abbrev pub left_of : List Record → Option Submitted → Option Submitted
left_of [] sdu = sdu
left_of (one ∷ told) sdu = unrefused one sdu

pub record Releases (b c : Checking) : Type 0 where
  pub right : b.right ≡ c.right
  pub forged : b.forged ≡ c.forged
  pub submitted : b.submitted ≡ None

pub releases : (sdu : Option Submitted) (c : Checking) → Releases (released sdu c) c
releases None c = record { right = refl; forged = refl; submitted = refl }
releases (Some x) c =
    let same = changed_else x.side x.lcid (queue_given x.len) (record c { submitted = None }) in
    record { right = same.right; forged = same.forged; submitted = same.submitted }

none_released : (sdu : Option Submitted) (c : Checking) → sdu ≡ None → c.submitted ≡ None → released sdu c ≡ c
none_released sdu c e f =
    ap (λ (o : Option Submitted). released o c) e
    ∙ ap (λ (o : Option Submitted). record c { submitted = o }) (sym f)

plain : (told : List Record) (c : Checking) → c.submitted ≡ None → checked told c ≡ all_records told c
plain [] c e = refl
plain (one ∷ told) c e =
    ap (λ (d : Checking). checked told (record_told one d))
    (none_released (unrefused one c.submitted) c (ap (unrefused one) e) e)
    ∙ plain told (record_told one c) ((record_else one c).submitted ∙ e)

settled_told : (told : List Record) (c : Checking) → c.submitted ≡ None
    → released (checked told c).submitted (checked told c) ≡ all_records told c
settled_told told c e =
    let none : (all_records told c).submitted ≡ None = (records_else told c).submitted ∙ e in
    ap (λ (d : Checking). released d.submitted d) (plain told c e)
    ∙ none_released (all_records told c).submitted (all_records told c) none none

-- it is submitted before the records, unless the first of them refuses it
pub settles_first : (told : List Record) (c : Checking)
    → released (checked told c).submitted (checked told c) ≡ all_records told (released (left_of told c.submitted) c)
settles_first [] c = refl
settles_first (one ∷ told) c =
    let d = released (unrefused one c.submitted) c in
    settled_told told (record_told one d)
    ((record_else one d).submitted ∙ (releases (unrefused one c.submitted) c).submitted)

none_at : (s : Side) (l : ℕ) (c : Checking) → queue_at s l (released None c) ≡ queue_at s l c
none_at Nb l c = refl
none_at Ue l c = refl

none_sizes : (c : Checking) → Sizes c → Sizes (released None c)
none_sizes c size Nb = size Nb
none_sizes c size Ue = size Ue

pub released_sizes : (sdu : Option Submitted) (c : Checking) → Sizes c → Sizes (released sdu c)
released_sizes None c size = none_sizes c size
released_sizes (Some x) c size =
    changed_sizes x.side x.lcid (queue_given x.len) (released None c) (none_sizes c size)

abbrev pub lens_handed : Side → ℕ → Line → List Record → List ℕ
lens_handed s l line told = map (λ sdu. length sdu) (handed_in s l (part_of_line line) told)

sides_same : (a b : Side) → is_same a b ≡ is_same b a
sides_same Nb Nb = refl
sides_same Nb Ue = refl
sides_same Ue Nb = refl
sides_same Ue Ue = refl

and_false : (b : Bool) → (b && false) ≡ false
and_false true = refl
and_false false = refl

pub own_at : (s : Side) (line : Line) (told : List Record) (l : ℕ) (c : Checking) → Sizes c → l ≤ 10
    → queue_at s l (released (left_of told (submitted_by line)) c)
    ≡ all_submitted (lens_handed s l line told) (queue_at s l c)
own_at s (lines.Submit side lcid octets) told l c size low = by told
  where
    own : Option Submitted
    own = Some (record { side = side; lcid = lcid; len = length octets })

    lens : Bool → List ℕ
    lens refused =
        map (λ sdu. length sdu) (if is_same side s && (not refused && (lcid == l)) then octets ∷ [] else [])

    submits : queue_at s l (released own c) ≡ all_submitted (lens false) (queue_at s l c)
    submits =
        changed_at s side lcid l (queue_given (length octets)) (released None c) (none_sizes c size) low
        ∙ ap (λ (q : Queue). if is_same s side && (lcid == l) then queue_given (length octets) q else q) (none_at s l c)
        ∙ ap (λ (b : Bool). if b && (lcid == l) then queue_given (length octets) (queue_at s l c) else queue_at s l c)
        (sides_same s side)
        ∙ gives (is_same side s && (lcid == l)) octets (queue_at s l c)

    first : (refused : Bool)
        → queue_at s l (released (if refused then None else own) c) ≡ all_submitted (lens refused) (queue_at s l c)
    first true = none_at s l c
        ∙ ap (λ (b : Bool). all_submitted (map (λ sdu. length sdu) (if b then octets ∷ [] else [])) (queue_at s l c))
        (sym (and_false (is_same side s)))
    first false = submits

    by : (told : List Record) → queue_at s l (released (left_of told own) c)
        ≡ all_submitted (lens (is_refused_at_once side lcid told)) (queue_at s l c)
    by [] = submits
    by (one ∷ told) = first (refuses side lcid one)
own_at s line [] l c size low = none_at s l c
own_at s line (one ∷ told) l c size low = none_at s l c

-- ---- a line

abbrev pub queue_by : ℕ → Line → Queue → Queue
queue_by l (lines.Bearer config options) q = if config.channel.lcid == l then begun_as config.kind q else q
queue_by l (lines.Handover user rrc integrity) q = handed_over q
queue_by l line q = q

pub line_at : (s : Side) (line : Line) (l : ℕ) (c : Checking) → Sizes c → l ≤ 10
    → queue_at s l (after_line line c) ≡ queue_by l line (queue_at s l c)
line_at Nb (lines.Bearer config options) l c size low =
    on_channel config.channel.lcid l (begun_as config.kind) c.nb (size Nb) low
line_at Ue (lines.Bearer config options) l c size low =
    on_channel config.channel.lcid l (begun_as config.kind) c.ue (size Ue) low
line_at Nb (lines.Handover user rrc integrity) l c size low =
    get_or-map handed_over c.nb l no_bearer no_bearer (omega (arith, size Nb, low))
line_at Ue (lines.Handover user rrc integrity) l c size low =
    get_or-map handed_over c.ue l no_bearer no_bearer (omega (arith, size Ue, low))
line_at Nb line l c size low = refl
line_at Ue line l c size low = refl

pub line_sizes : (line : Line) (c : Checking) → Sizes c → Sizes (after_line line c)
line_sizes (lines.Bearer config options) c size Nb =
    length-set c.nb config.channel.lcid (begun_as config.kind (slice_index_or c.nb config.channel.lcid no_bearer))
    ∙ size Nb
line_sizes (lines.Bearer config options) c size Ue =
    length-set c.ue config.channel.lcid (begun_as config.kind (slice_index_or c.ue config.channel.lcid no_bearer))
    ∙ size Ue
line_sizes (lines.Handover user rrc integrity) c size Nb = length-map c.nb handed_over ∙ size Nb
line_sizes (lines.Handover user rrc integrity) c size Ue = length-map c.ue handed_over ∙ size Ue
line_sizes line c size Nb = size Nb
line_sizes line c size Ue = size Ue

pub line_right : (line : Line) (c : Checking) → (queues_by line c).right ≡ c.right
line_right (lines.Bearer config options) c = refl
line_right (lines.Handover user rrc integrity) c = refl
line_right line c = refl

pub forged_else : (line : Line) (c : Checking) → (queues_by line c).forged ≡ c.forged
forged_else (lines.Bearer config options) c = refl
forged_else (lines.Handover user rrc integrity) c = refl
forged_else line c = refl
