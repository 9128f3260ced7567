-- What a record leaves of what is told of each channel, and whether it is right.
use Rattle.std.proofs.Common.{◌≡◌, ℕ, ◌+◌, ◌<◌, ◌≤◌, Bool, true, false, List, [], ◌∷◌, ◌++◌, length}
use Rattle.std.proofs.Common.{inl, inr, refl, ap, sym, ◌∙◌, arith, subst, if◌then◌else◌, slice_set, slice_index_or}
use Rattle.std.proofs.Common.{nat_lt}
use Rattle.std.specs.Prelude.{◌&&◌, ◌==◌, nat_le, cond}
use Rattle.std.specs.List.{filter}
use Rattle.std.proofs.lemmas.Bool.{cases_eq, eq-eqb, ne_eqb, eqb-true, and_parts, and_from, leb-true, le-leb, ltb-true}
use Rattle.std.proofs.lemmas.Bool.{lt-ltb, false≢true}
use Rattle.std.proofs.lemmas.List.{length-set, get_or-set_same, get_or-set_other}
use Rattle.l2_types.specs.declared.event.Lost.TheVariants.{Ignored}
use Rattle.l2_types.specs.declared.side.Side.{Side}
use Rattle.l2_types.specs.declared.side.Side.TheVariants.{Nb, Ue}
use Rattle.bearer_types.specs.declared.event.Event.TheVariants.{Drop}
use Rattle.bearer_types.specs.Sides.{is_same, sender_of}
use Rattle.air_record.specs.declared.record.Record.{Record}
use Rattle.air_record.specs.declared.record.Record.TheVariants as records
use Rattle.journal_flows.specs.Accounts.{Keeping}
use Rattle.journal_status.specs.RightStatus.{tells_ignored, ignored_told}
use Rattle.journal_status.specs.StatusChecking.{Checking, tolds_of, and_right, may_tell, with_told}
use Rattle.journal_status.specs.StatusChecking.{ignored_at, are_true, after_told, after_record}
use Rattle.journal_status.proofs.StatusReports.{is_block_true}

-- ---- by side and channel

abbrev pub told_at : Side → ℕ → Checking → ℕ
told_at side l c = slice_index_or (tolds_of side c) l 0

abbrev pub Sizes : Checking → Type 0
Sizes c = (side : Side) → length (tolds_of side c) ≡ 11

abbrev pub one_more : Bool → ℕ
one_more b = if b then 1 else 0

on_channel : (lcid l ignored : ℕ) (tolds : List ℕ) → length tolds ≡ 11 → l ≤ 10
    → slice_index_or tolds lcid 0 < ignored
    → slice_index_or (with_told lcid ignored tolds) l 0 ≡ slice_index_or tolds l 0 + one_more (lcid == l)
on_channel lcid l ignored tolds size low fewer =
    ap (λ (b : Bool). slice_index_or (if b then slice_set tolds lcid (slice_index_or tolds lcid 0 + 1) else tolds) l 0)
    (lt-ltb (slice_index_or tolds lcid 0) ignored fewer)
    ∙ elim (cases_eq l lcid) [
      | inl here ↦
          ap (λ (n : ℕ). slice_index_or (slice_set tolds n (slice_index_or tolds n 0 + 1)) l 0) (sym here)
          ∙ get_or-set_same tolds l (slice_index_or tolds l 0 + 1) 0 (omega (arith, size, low))
          ∙ ap (λ (b : Bool). slice_index_or tolds l 0 + one_more b) (sym (eq-eqb lcid l (sym here)))
      | inr apart ↦
          let none : slice_index_or tolds l 0 ≡ slice_index_or tolds l 0 + 0 = omega arith in
          get_or-set_other tolds lcid l (slice_index_or tolds lcid 0 + 1) 0 apart ∙ none
          ∙ ap (λ (b : Bool). slice_index_or tolds l 0 + one_more b)
          (sym (ne_eqb lcid l (λ same. apart (sym same))))
    ]

none_more : (n : ℕ) → n ≡ n + 0
none_more n = omega arith

told_more : (s side : Side) (lcid l ignored : ℕ) (c : Checking) → Sizes c → l ≤ 10 → told_at side lcid c < ignored
    → told_at s l (after_told side lcid ignored c) ≡ told_at s l c + one_more (is_same s side && (lcid == l))
told_more Nb Nb lcid l ignored c size low fewer = on_channel lcid l ignored c.nb (size Nb) low fewer
told_more Nb Ue lcid l ignored c size low fewer = none_more (told_at Nb l c)
told_more Ue Nb lcid l ignored c size low fewer = none_more (told_at Ue l c)
told_more Ue Ue lcid l ignored c size low fewer = on_channel lcid l ignored c.ue (size Ue) low fewer

with_size : (lcid ignored : ℕ) (tolds : List ℕ) → length (with_told lcid ignored tolds) ≡ length tolds
with_size lcid ignored tolds = by (nat_lt (slice_index_or tolds lcid 0) ignored)
  where
    by : (b : Bool) → length (if b then slice_set tolds lcid (slice_index_or tolds lcid 0 + 1) else tolds)
        ≡ length tolds
    by true = length-set tolds lcid (slice_index_or tolds lcid 0 + 1)
    by false = refl

told_sizes : (side : Side) (lcid ignored : ℕ) (c : Checking) → Sizes c → Sizes (after_told side lcid ignored c)
told_sizes Nb lcid ignored c size Nb = with_size lcid ignored c.nb ∙ size Nb
told_sizes Nb lcid ignored c size Ue = size Ue
told_sizes Ue lcid ignored c size Nb = size Nb
told_sizes Ue lcid ignored c size Ue = with_size lcid ignored c.ue ∙ size Ue

pub record_sizes : (k : Keeping) (one : Record) (c : Checking) → Sizes c → Sizes (after_record k one c)
record_sizes k (records.Of side (Drop lcid Ignored)) c size = told_sizes side lcid (ignored_at side k lcid) c size
record_sizes k (records.Of side event) c size = size
record_sizes k (records.Block direction process true version octets) c size = λ side. by side
  where
    by : (side : Side) → length (tolds_of side (and_right (are_true k (sender_of direction)) c)) ≡ 11
    by Nb = size Nb
    by Ue = size Ue
record_sizes k one c size = size

-- ---- whether it is right

pub record IsRecordRight (k : Keeping) (one : Record) (c : Checking) : Type 0 where
  pub was : c.right ≡ true
  pub low : (s : Side) (l : ℕ) → tells_ignored s l one ≡ true → l ≤ 10
  pub fewer : (s : Side) (l : ℕ) → tells_ignored s l one ≡ true → told_at s l c < ignored_at s k l
  pub truly : is_block_true k one ≡ true

own : (s : Side) → is_same s s ≡ true
own Nb = refl
own Ue = refl

told_right : (side : Side) (lcid ignored : ℕ) (c : Checking)
    → (after_told side lcid ignored c).right ≡ (c.right && may_tell lcid ignored (tolds_of side c))
told_right Nb lcid ignored c = refl
told_right Ue lcid ignored c = refl

tells_sound : (k : Keeping) (side : Side) (lcid : ℕ) (c : Checking)
    → (after_told side lcid (ignored_at side k lcid) c).right ≡ true
    → IsRecordRight k (records.Of side (Drop lcid Ignored)) c
tells_sound k side lcid c h =
    let both = and_parts c.right (may_tell lcid (ignored_at side k lcid) (tolds_of side c))
    (sym (told_right side lcid (ignored_at side k lcid) c) ∙ h) in
    let may = and_parts (nat_le lcid 10) (nat_lt (told_at side lcid c) (ignored_at side k lcid)) both.1 in
    record {
      was = both.0;
      low = λ s l is.
          let same : lcid ≡ l = eqb-true lcid l (and_parts (is_same s side) (lcid == l) is).1 in
          let low : lcid ≤ 10 = leb-true lcid 10 may.0 in
          omega arith;
      fewer = λ s l is. by s side l is (ltb-true (told_at side lcid c) (ignored_at side k lcid) may.1);
      truly = refl;
    }
  where
    moved : (s : Side) (l : ℕ) → (lcid == l) ≡ true → told_at s lcid c < ignored_at s k lcid
        → told_at s l c < ignored_at s k l
    moved s l is lt = subst (λ (n : ℕ). told_at s n c < ignored_at s k n) (eqb-true lcid l is) lt

    by : (s t : Side) (l : ℕ) → (is_same s t && (lcid == l)) ≡ true → told_at t lcid c < ignored_at t k lcid
        → told_at s l c < ignored_at s k l
    by Nb Nb l is lt = moved Nb l is lt
    by Nb Ue l is lt = absurd (false≢true is)
    by Ue Nb l is lt = absurd (false≢true is)
    by Ue Ue l is lt = moved Ue l is lt

pub record_sound : (k : Keeping) (one : Record) (c : Checking) → (after_record k one c).right ≡ true
    → IsRecordRight k one c
record_sound k (records.Of side (Drop lcid Ignored)) c h = tells_sound k side lcid c h
record_sound k (records.Of side event) c h = record {
  was = h;
  low = λ s l is. absurd (false≢true is);
  fewer = λ s l is. absurd (false≢true is);
  truly = refl;
}
record_sound k (records.Block direction process true version octets) c h =
    let both = and_parts c.right (are_true k (sender_of direction)) h in
    record {
      was = both.0;
      low = λ s l is. absurd (false≢true is);
      fewer = λ s l is. absurd (false≢true is);
      truly = both.1;
    }
record_sound k one c h = record {
  was = h;
  low = λ s l is. absurd (false≢true is);
  fewer = λ s l is. absurd (false≢true is);
  truly = refl;
}

pub record_complete : (k : Keeping) (one : Record) (c : Checking) → IsRecordRight k one c
    → (after_record k one c).right ≡ true
record_complete k (records.Of side (Drop lcid Ignored)) c h =
    let is : (is_same side side && (lcid == lcid)) ≡ true =
    and_from (is_same side side) (lcid == lcid) (own side) (eq-eqb lcid lcid refl) in
    told_right side lcid (ignored_at side k lcid) c
    ∙ and_from c.right (may_tell lcid (ignored_at side k lcid) (tolds_of side c)) h.was
    (and_from (nat_le lcid 10) (nat_lt (told_at side lcid c) (ignored_at side k lcid))
    (le-leb lcid 10 (h.low side lcid is))
    (lt-ltb (told_at side lcid c) (ignored_at side k lcid) (h.fewer side lcid is)))
record_complete k (records.Of side event) c h = h.was
record_complete k (records.Block direction process true version octets) c h =
    and_from c.right (are_true k (sender_of direction)) h.was h.truly
record_complete k one c h = h.was

-- ---- what a right record leaves

pub record_told : (k : Keeping) (one : Record) (c : Checking) → IsRecordRight k one c → Sizes c → (s : Side) (l : ℕ)
    → l ≤ 10 → told_at s l (after_record k one c) ≡ told_at s l c + one_more (tells_ignored s l one)
record_told k (records.Of side (Drop lcid Ignored)) c h size s l low =
    told_more s side lcid l (ignored_at side k lcid) c size low
    (h.fewer side lcid (and_from (is_same side side) (lcid == lcid) (own side) (eq-eqb lcid lcid refl)))
record_told k (records.Of side event) c h size s l low = none_more (told_at s l c)
record_told k (records.Block direction process true version octets) c h size Nb l low = none_more (told_at Nb l c)
record_told k (records.Block direction process true version octets) c h size Ue l low = none_more (told_at Ue l c)
record_told k one c h size s l low = none_more (told_at s l c)

hands_told : (side : Side) (lcid ignored : ℕ) (c : Checking)
    → (after_told side lcid ignored c).hands_over ≡ c.hands_over
hands_told Nb lcid ignored c = refl
hands_told Ue lcid ignored c = refl

pub record_hands : (k : Keeping) (one : Record) (c : Checking) → (after_record k one c).hands_over ≡ c.hands_over
record_hands k (records.Of side (Drop lcid Ignored)) c = hands_told side lcid (ignored_at side k lcid) c
record_hands k (records.Of side event) c = refl
record_hands k (records.Block direction process true version octets) c = refl
record_hands k one c = refl

-- ---- how many records tell of one

pub told_by_one : (s : Side) (l : ℕ) (told : List Record) (one : Record)
    → ignored_told s l (told ++ one ∷ []) ≡ ignored_told s l told + one_more (tells_ignored s l one)
told_by_one s l [] one = by (tells_ignored s l one)
  where
    by : (b : Bool) → length (cond b (one ∷ []) []) ≡ 0 + one_more b
    by true = refl
    by false = refl
told_by_one s l (x ∷ told) one = by (tells_ignored s l x) (told_by_one s l told one)
  where
    by : (b : Bool) → ignored_told s l (told ++ one ∷ []) ≡ ignored_told s l told + one_more (tells_ignored s l one)
        → length (cond b (x ∷ filter (tells_ignored s l) (told ++ one ∷ [])) (filter (tells_ignored s l)
        (told ++ one ∷ [])))
        ≡ length (cond b (x ∷ filter (tells_ignored s l) told) (filter (tells_ignored s l) told))
        + one_more (tells_ignored s l one)
    by true e = omega (arith, e)
    by false e = e

pub some_told : (s : Side) (l : ℕ) (told : List Record) (one : Record) (rest : List Record)
    → tells_ignored s l one ≡ true → ignored_told s l (told ++ one ∷ rest) ≡ 0 → ⊥
some_told s l [] one rest is none = by (tells_ignored s l one) is none
  where
    by : (b : Bool) → b ≡ true
        → length (cond b (one ∷ filter (tells_ignored s l) rest) (filter (tells_ignored s l) rest)) ≡ 0 → ⊥
    by true is h = absurd cc
    by false is h = absurd (false≢true is)
some_told s l (x ∷ told) one rest is none = by (some_told s l told one rest is) (tells_ignored s l x) none
  where
    by : (ignored_told s l (told ++ one ∷ rest) ≡ 0 → ⊥) → (b : Bool)
        → length (cond b (x ∷ filter (tells_ignored s l) (told ++ one ∷ rest)) (filter (tells_ignored s l)
        (told ++ one ∷ rest))) ≡ 0 → ⊥
    by more true h = absurd cc
    by more false h = more h

pub none_told : (s : Side) (l : ℕ) (one : Record) (rest : List Record) → tells_ignored s l one ≡ false
    → ignored_told s l rest ≡ 0 → ignored_told s l (one ∷ rest) ≡ 0
none_told s l one rest is none =
    ap (λ (b : Bool). length (cond b (one ∷ filter (tells_ignored s l) rest) (filter (tells_ignored s l) rest))) is
    ∙ none
