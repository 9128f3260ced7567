-- What records leave of each sender, and whether a `fail` record names a channel that there isn't.
use Rattle.std.proofs.Common.{◌≡◌, ℕ, ◌<◌, ◌≤◌, Bool, true, false, List, [], ◌∷◌, ◌++◌, length}
use Rattle.std.proofs.Common.{inl, inr, refl, ap, sym, ◌∙◌, arith, if◌then◌else◌}
use Rattle.std.proofs.Common.{slice_set, slice_index_or}
use Rattle.std.specs.Prelude.{◌&&◌, not, ◌==◌, nat_le}
use Rattle.std.proofs.lemmas.Bool.{cases_eq, eq-eqb, ne_eqb, and_parts, and_from, leb-true, le-leb, cases_lt}
use Rattle.std.proofs.lemmas.List.{length-set, get_or-set_same, get_or-set_other}
use Rattle.std.proofs.lemmas.Grind.{flat_map-append}
use Rattle.l2_types.specs.declared.side.Side.{Side}
use Rattle.l2_types.specs.declared.side.Side.TheVariants.{Nb, Ue}
use Rattle.bearer_types.specs.declared.event.Event.{Event}
use Rattle.bearer_types.specs.declared.event.Event.TheVariants.{Send, Fail}
use Rattle.bearer_types.specs.Sides.{is_same}
use Rattle.air_record.specs.declared.record.Record.{Record}
use Rattle.air_record.specs.declared.record.Record.TheVariants as records
use Rattle.promises.specs.Events.{is_of_loop, fails_in, fails_on}
use Rattle.promises.specs.Records.{event_of, events_of}
use Rattle.promises.specs.Silent.{is_data}
use Rattle.journal_failure.specs.declared.sender.Sender.{Sender}
use Rattle.journal_failure.specs.Checking.{Checking, nothing_told, changed_on, changed, and_right, with_fail, with_data}
use Rattle.journal_failure.specs.Checking.{after_event, after_record, checked}
use Rattle.journal_failure.proofs.Hearing.{heard, all_heard, and_all}

-- ---- by side and channel

abbrev pub senders_of : Side → Checking → List Sender
senders_of Nb c = c.nb
senders_of Ue c = c.ue

abbrev pub sender_at : Side → ℕ → Checking → Sender
sender_at side l c = slice_index_or (senders_of side c) l nothing_told

abbrev pub Sizes : Checking → Type 0
Sizes c = (side : Side) → length (senders_of side c) ≡ 11

on_channel : (lcid l : ℕ) (f : Sender → Sender) (ss : List Sender) → length ss ≡ 11 → l ≤ 10
    → slice_index_or (changed_on lcid f ss) l nothing_told
    ≡ (if lcid == l then f (slice_index_or ss l nothing_told) else slice_index_or ss l nothing_told)
on_channel lcid l f ss size low = elim (cases_eq l lcid) [
  | inl here ↦
      ap (λ (n : ℕ). slice_index_or (slice_set ss n (f (slice_index_or ss n nothing_told))) l nothing_told)
      (sym here)
      ∙ get_or-set_same ss l (f (slice_index_or ss l nothing_told)) nothing_told (omega (arith, size, low))
      ∙ ap (λ (b : Bool). if b then f (slice_index_or ss l nothing_told) else slice_index_or ss l nothing_told)
      (sym (eq-eqb lcid l (sym here)))
  | inr apart ↦
      get_or-set_other ss lcid l (f (slice_index_or ss lcid nothing_told)) nothing_told apart
      ∙ ap (λ (b : Bool). if b then f (slice_index_or ss l nothing_told) else slice_index_or ss l nothing_told)
      (sym (ne_eqb lcid l (λ same. apart (sym same))))
]

pub changed_at : (s side : Side) (lcid l : ℕ) (f : Sender → Sender) (c : Checking) → Sizes c → l ≤ 10
    → sender_at s l (changed side lcid f c)
    ≡ (if is_same s side && (lcid == l) then f (sender_at s l c) else sender_at s l c)
changed_at Nb Nb lcid l f c size low = on_channel lcid l f c.nb (size Nb) low
changed_at Nb Ue lcid l f c size low = refl
changed_at Ue Nb lcid l f c size low = refl
changed_at Ue Ue lcid l f c size low = on_channel lcid l f c.ue (size Ue) low

pub changed_sizes : (side : Side) (lcid : ℕ) (f : Sender → Sender) (c : Checking) → Sizes c
    → Sizes (changed side lcid f c)
changed_sizes Nb lcid f c size Nb =
    length-set c.nb lcid (f (slice_index_or c.nb lcid nothing_told)) ∙ size Nb
changed_sizes Nb lcid f c size Ue = size Ue
changed_sizes Ue lcid f c size Nb = size Nb
changed_sizes Ue lcid f c size Ue =
    length-set c.ue lcid (f (slice_index_or c.ue lcid nothing_told)) ∙ size Ue

same_senders : (s : Side) (b : Bool) (c : Checking) → senders_of s (and_right b c) ≡ senders_of s c
same_senders Nb b c = refl
same_senders Ue b c = refl

-- ---- a record

unheard : (l : ℕ) (e : Event) (x : Sender) → heard l e x ≡ x → (b : Bool)
    → x ≡ all_heard l (if b then e ∷ [] else []) x
unheard l e x is true = sym is
unheard l e x is false = refl

event_sizes : (side : Side) (event : Event) (c : Checking) → Sizes c → Sizes (after_event side event c)
event_sizes side (Fail lcid sn) c size = λ s.
    ap (λ (ss : List Sender). length ss) (same_senders s (nat_le lcid 10) (changed side lcid (with_fail sn) c))
    ∙ changed_sizes side lcid (with_fail sn) c size s
event_sizes side (Send lcid how sn) c size = by (is_data how)
  where
    by : (d : Bool) → Sizes (if d then changed side lcid with_data c else c)
    by true = changed_sizes side lcid with_data c size
    by false = size
event_sizes side event c size = size

event_at : (s side : Side) (event : Event) (l : ℕ) (c : Checking) → Sizes c → l ≤ 10
    → sender_at s l (after_event side event c) ≡ all_heard l (event_of s (records.Of side event)) (sender_at s l c)
event_at s side (Fail lcid sn) l c size low =
    ap (λ (ss : List Sender). slice_index_or ss l nothing_told)
    (same_senders s (nat_le lcid 10) (changed side lcid (with_fail sn) c))
    ∙ changed_at s side lcid l (with_fail sn) c size low ∙ by (is_same s side) (sender_at s l c)
  where
    by : (b : Bool) (x : Sender) → (if b && (lcid == l) then with_fail sn x else x)
        ≡ all_heard l (if b && true then Fail lcid sn ∷ [] else []) x
    by true x = refl
    by false x = refl
event_at s side (Send lcid how sn) l c size low =
    data_at (is_data how) ∙ by (is_same s side) (sender_at s l c)
  where
    same : (b : Bool) (x : Sender) → x ≡ (if b then x else x)
    same true x = refl
    same false x = refl

    data_at : (d : Bool) → sender_at s l (if d then changed side lcid with_data c else c)
        ≡ (if is_same s side && (lcid == l) then (if d then with_data (sender_at s l c) else sender_at s l c)
        else sender_at s l c)
    data_at true = changed_at s side lcid l with_data c size low
    data_at false = same (is_same s side && (lcid == l)) (sender_at s l c)

    by : (b : Bool) (x : Sender) → (if b && (lcid == l) then (if is_data how then with_data x else x) else x)
        ≡ all_heard l (if b && true then Send lcid how sn ∷ [] else []) x
    by true x = refl
    by false x = refl
event_at s side event l c size low =
    unheard l event (sender_at s l c) refl (is_same s side && not (is_of_loop event))

record_sizes : (one : Record) (c : Checking) → Sizes c → Sizes (after_record one c)
record_sizes (records.Of side event) c size = event_sizes side event c size
record_sizes one c size = size

record_at : (s : Side) (one : Record) (l : ℕ) (c : Checking) → Sizes c → l ≤ 10
    → sender_at s l (after_record one c) ≡ all_heard l (event_of s one) (sender_at s l c)
record_at s (records.Of side event) l c size low = event_at s side event l c size low
record_at s one l c size low = refl

-- ---- records

heard_append : (l : ℕ) (xs ys : List Event) (x : Sender)
    → all_heard l (xs ++ ys) x ≡ all_heard l ys (all_heard l xs x)
heard_append l [] ys x = refl
heard_append l (e ∷ xs) ys x = heard_append l xs ys (heard l e x)

pub checked_sizes : (told : List Record) (c : Checking) → Sizes c → Sizes (checked told c)
checked_sizes [] c size = size
checked_sizes (one ∷ told) c size = checked_sizes told (after_record one c) (record_sizes one c size)

pub checked_at : (s : Side) (told : List Record) (l : ℕ) (c : Checking) → Sizes c → l ≤ 10
    → sender_at s l (checked told c) ≡ all_heard l (events_of s told) (sender_at s l c)
checked_at s [] l c size low = refl
checked_at s (one ∷ told) l c size low =
    checked_at s told l (after_record one c) (record_sizes one c size) low
    ∙ ap (all_heard l (events_of s told)) (record_at s one l c size low)
    ∙ sym (heard_append l (event_of s one) (events_of s told) (sender_at s l c))

-- ---- channels that there are

abbrev pub Elsewhere : List Record → Type 0
Elsewhere told = (s : Side) (l : ℕ) → 10 < l → fails_on l (events_of s told) ≡ []

abbrev NotFar : Record → Type 0
NotFar one = (s : Side) (l : ℕ) → 10 < l → fails_on l (event_of s one) ≡ []

abbrev is_near : Record → Bool
is_near (records.Of side (Fail lcid sn)) = nat_le lcid 10
is_near one = true

by_event : (side : Side) (event : Event) (c : Checking)
    → (after_event side event c).right ≡ (c.right && is_near (records.Of side event))
by_event Nb (Fail lcid sn) c = refl
by_event Ue (Fail lcid sn) c = refl
by_event side (Send lcid how sn) c = by side (is_data how)
  where
    by : (s : Side) (d : Bool) → (if d then changed s lcid with_data c else c).right ≡ (c.right && true)
    by Nb true = and_all c.right
    by Ue true = and_all c.right
    by s false = and_all c.right
by_event side event c = and_all c.right

by_record : (one : Record) (c : Checking) → (after_record one c).right ≡ (c.right && is_near one)
by_record (records.Of side event) c = by_event side event c
by_record one c = and_all c.right

none_told : (l : ℕ) (e : Event) → fails_in l e ≡ [] → (b : Bool) → fails_on l (if b then e ∷ [] else []) ≡ []
none_told l e is true = ap (λ (ns : List ℕ). ns ++ []) is
none_told l e is false = refl

near_event : (side : Side) (event : Event) → is_near (records.Of side event) ≡ true → NotFar (records.Of side event)
near_event side (Fail lcid sn) h s l far =
    let low : lcid ≤ 10 = leb-true lcid 10 h in
    none_told l (Fail lcid sn)
    (ap (λ (b : Bool). if b then sn ∷ [] else []) (ne_eqb lcid l (λ same. omega (arith, same, low, far))))
    (is_same s side && true)
near_event side event h s l far = none_told l event refl (is_same s side && not (is_of_loop event))

near_sound : (one : Record) → is_near one ≡ true → NotFar one
near_sound (records.Of side event) h = near_event side event h
near_sound one h = λ s l far. refl

far_told : (side : Side) (lcid sn : ℕ) → fails_on lcid (event_of side (records.Of side (Fail lcid sn))) ≡ [] → ⊥
far_told Nb lcid sn h =
    let told : (if lcid == lcid then sn ∷ [] else []) ++ [] ≡ sn ∷ [] =
    ap (λ (b : Bool). (if b then sn ∷ [] else []) ++ []) (eq-eqb lcid lcid refl) in
    let no : sn ∷ [] ≡ [] = sym told ∙ h in absurd cc
far_told Ue lcid sn h =
    let told : (if lcid == lcid then sn ∷ [] else []) ++ [] ≡ sn ∷ [] =
    ap (λ (b : Bool). (if b then sn ∷ [] else []) ++ []) (eq-eqb lcid lcid refl) in
    let no : sn ∷ [] ≡ [] = sym told ∙ h in absurd cc

near_by : (side : Side) (event : Event) → NotFar (records.Of side event) → is_near (records.Of side event) ≡ true
near_by side (Fail lcid sn) h = elim (cases_lt 10 lcid) [
  | inl far ↦ absurd (far_told side lcid sn (h side lcid far))
  | inr low ↦ le-leb lcid 10 low
]
near_by side event h = refl

near_complete : (one : Record) → NotFar one → is_near one ≡ true
near_complete (records.Of side event) h = near_by side event h
near_complete one h = refl

nil_parts : (xs ys : List ℕ) → xs ++ ys ≡ [] → (xs ≡ []) × (ys ≡ [])
nil_parts [] ys h = (refl, h)
nil_parts (x ∷ xs) ys h = absurd cc

pub right_sound : (told : List Record) (c : Checking) → (checked told c).right ≡ true
    → (c.right ≡ true) × Elsewhere told
right_sound [] c h = (h, λ s l far. refl)
right_sound (one ∷ told) c h =
    let more = right_sound told (after_record one c) h in
    let p = and_parts c.right (is_near one) (sym (by_record one c) ∙ more.0) in (
      p.0,
      λ s l far. flat_map-append (fails_in l) (event_of s one) (events_of s told)
          ∙ ap (λ (ns : List ℕ). ns ++ fails_on l (events_of s told)) (near_sound one p.1 s l far)
          ∙ more.1 s l far,
    )

pub right_complete : (told : List Record) (c : Checking) → c.right ≡ true → Elsewhere told
    → (checked told c).right ≡ true
right_complete [] c h far = h
right_complete (one ∷ told) c h far =
    let parts : (s : Side) (l : ℕ) → 10 < l
    → (fails_on l (event_of s one) ≡ []) × (fails_on l (events_of s told) ≡ []) =
    λ s l high. nil_parts (fails_on l (event_of s one)) (fails_on l (events_of s told))
    (sym (flat_map-append (fails_in l) (event_of s one) (events_of s told)) ∙ far s l high) in
    right_complete told (after_record one c)
    (by_record one c
    ∙ and_from c.right (is_near one) h (near_complete one (λ s l high. (parts s l high).0)))
    (λ s l high. (parts s l high).1)
