-- What a journal tells of a queue, and the queue of the end behind it.
use Rattle.std.proofs.Common.{◌≡◌, ◌≤◌, ℕ, ◌+◌, Option, List, [], ◌∷◌, ◌++◌, length, append_assoc, refl, ap, sym}
use Rattle.std.proofs.Common.{subst, ◌∙◌, arith}
use Rattle.std.specs.List.{flat_map}
use Rattle.std.proofs.lemmas.List.{length-append}
use Rattle.air_record.specs.declared.record.Record.{Record}
use Rattle.l2_node.specs.End.{End}
use Rattle.l2_types.specs.declared.side.Side.{Side}
use Rattle.law_node.specs.Calls.{run_end}
use Rattle.law_node.specs.Telling.{told_over}
use Rattle.pdcp_pdu.specs.declared.pdu.PdcpKind.{PdcpKind}
use Rattle.pdcp_sec.specs.Protection.{Protection}
use Rattle.promises.specs.Flows.{looped_at}
use Rattle.promises.specs.Taken.{leaving_in}
use Rattle.promises.specs.WaitingSdus.{Queue, after_record, after_records, EachMayLeave}
use Rattle.law_run.proofs.AnyAir.{ComesBy}
use Rattle.law_run.proofs.WaitingSdus.Counting.{next_behind, next_both, InTurn, gone, gone_both, left_in, left_both}
use Rattle.law_run.proofs.WaitingSdus.Counting.{Counted, counted_quiet, counted_then, counted_end, behind_records}
use Rattle.law_run.proofs.WaitingSdus.Counting.{after_is}
use Rattle.law_run.proofs.WaitingSdus.Ends.{QueuedAt, goes_on}
use Rattle.law_run.proofs.TwoEnds.Along.{looped_more}

-- ---- groups of records one behind the other

pub after_then : (from : Side) (l : ℕ) (xs ys : List Record) (q : Queue)
    → after_records from l (xs ++ ys) q ≡ after_records from l ys (after_records from l xs q)
after_then from l [] ys q = refl
after_then from l (x ∷ xs) ys q = after_then from l xs ys (after_record from l x q)

pub each_then : (from : Side) (l first : ℕ) (xs ys : List Record) (q : Queue) → EachMayLeave from l first xs q
    → EachMayLeave from l first ys (after_records from l xs q) → EachMayLeave from l first (xs ++ ys) q
each_then from l first [] ys q h k = k
each_then from l first (x ∷ xs) ys q h k = (h.0, each_then from l first xs ys (after_record from l x q) h.1 k)

-- those that were handed in as a group begins
abbrev pub with_handed : List (List ℕ) → Queue → Queue
with_handed handed q = record { leaving = q.leaving; submitted = q.submitted + length handed }

-- ---- of parts: in the first none comes back, in the second none leaves, in the third again none comes back

pub record Parts (from : Side) (l : ℕ) (told : List Record) : Type 0 where
  pub timers : List Record
  pub middle : List Record
  pub last : List Record
  pub told_is : told ≡ timers ++ (middle ++ last)
  pub timed : looped_at from l timers ≡ []
  pub calm : left_in from l middle ≡ []
  pub unlooped : looped_at from l last ≡ []

pub parts_counted : (from : Side) (l first : ℕ) (told : List Record) (q : Queue) (p : Parts from l told)
    → gone first (q.leaving ++ left_in from l p.timers) ≤ q.submitted
    → gone first (q.leaving ++ left_in from l told) ≤ q.submitted + length (looped_at from l told)
    → Counted from l first told q
parts_counted from l first told q p first_le le =
    let a = p.timers in
    let b = p.middle in
    let c = p.last in
    let x = behind_records from l a q in
    let y = behind_records from l b x in
    let timed = ap (λ (xs : List (List ℕ)). length xs) p.timed in
    let back : length (looped_at from l told) ≡ length (looped_at from l a) + length (looped_at from l b) =
    let all = ap (λ (xs : List Record). length (looped_at from l xs)) p.told_is in
    let one = ap (λ (xs : List (List ℕ)). length xs) (looped_more from l a (b ++ c)) in
    let two = ap (λ (xs : List (List ℕ)). length xs) (looped_more from l b c) in
    let d = length-append (looped_at from l a) (looped_at from l (b ++ c)) in
    let e = length-append (looped_at from l b) (looped_at from l c) in
    let none = ap (λ (xs : List (List ℕ)). length xs) p.unlooped in
    omega (arith, all, one, two, d, e, none) in
    let left : q.leaving ++ left_in from l told ≡ y.leaving ++ left_in from l c =
    ap (λ (xs : List Record). q.leaving ++ left_in from l xs) p.told_is
    ∙ (ap (λ (ms : List (Option ℕ)). q.leaving ++ ms) (left_both from l a (b ++ c))
    ∙ (ap (λ (ms : List (Option ℕ)). q.leaving ++ (left_in from l a ++ ms)) (left_both from l b c)
    ∙ (sym (append_assoc q.leaving (left_in from l a) (left_in from l b ++ left_in from l c))
    ∙ sym (append_assoc (q.leaving ++ left_in from l a) (left_in from l b) (left_in from l c))))) in
    let many = ap (gone first) left in
    subst (λ (xs : List Record). Counted from l first xs q) (sym p.told_is)
    (counted_then from l first a (b ++ c) q (counted_end from l first a q p.timed first_le)
    (subst (Counted from l first (b ++ c)) (sym (after_is from l a q))
    (counted_then from l first b c x (counted_quiet from l first b x p.calm)
    (subst (Counted from l first c) (sym (after_is from l b x))
    (counted_end from l first c y p.unlooped (omega (arith, many, le, back)))))))

-- ---- an end

module _ (kind : PdcpKind) (p : Protection) (first bits l : ℕ) (side : Side) where
  -- its queue is as told
  pub record Fits (q : Queue) (e : End) : Type 0 where
    pub waits : ℕ
    pub at : QueuedAt kind p first bits l side (next_behind first q.leaving) waits e
    pub count : gone first q.leaving + waits ≡ q.submitted

  pub fits_within : (q : Queue) (e : End) → Fits q e → gone first q.leaving ≤ q.submitted
  fits_within q e h = let count = h.count in omega (arith, count)

  -- and so it is behind calls
  pub record Walks (handed : List (List ℕ)) (told : List Record) (q : Queue) (e : End) : Type 0 where
    pub turn : InTurn (next_behind first q.leaving) (left_in side l told)
    pub fits : Fits (behind_records side l told (with_handed handed q)) e

  pub walks : (handed : List (List ℕ)) (told : List Record) (q : Queue) (e f : End)
      → ComesBy l side handed told e f → Fits q e → Walks handed told q f
  walks handed told q e f by h =
      let n = next_behind first q.leaving in
      let cs = by.calls in
      let x = goes_on kind p first bits l side n h.waits e cs by.are h.at in
      let ms = left_in side l told in
      let same : ms ≡ flat_map (leaving_in l) (told_over cs e) = ap (flat_map (leaving_in l)) by.told_is in
      let on : next_behind n (flat_map (leaving_in l) (told_over cs e)) ≡ next_behind first (q.leaving ++ ms) =
      ap (next_behind n) (sym same) ∙ sym (next_both first q.leaving ms) in
      let now = subst (λ (m : ℕ). QueuedAt kind p first bits l side m x.rest (run_end cs e)) on x.at in
      let count = h.count in
      let more = x.count in
      let both = gone_both first q.leaving ms in
      let as_told = ap (gone n) same in
      let given = ap (λ (xs : List (List ℕ)). length xs) by.submitted_is in
      let parts = length-append handed (looped_at side l told) in
      record {
        turn = subst (InTurn n) (sym same) x.turn;
        fits = record {
          waits = x.rest;
          at = subst (QueuedAt kind p first bits l side (next_behind first (q.leaving ++ ms)) x.rest) (sym by.end_is)
              now;
          count = omega (arith, count, more, both, as_told, given, parts);
        };
      }

  pub fits_as : (q r : Queue) (e f : End) → q ≡ r → e ≡ f → Fits q e → Fits r f
  fits_as q r e f same end_is h = subst (Fits r) end_is (subst (λ (x : Queue). Fits x e) same h)
