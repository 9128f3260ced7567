-- The octets that wait at a sender, as PDUs are taken.
use Rattle.std.proofs.Common.{◌≡◌, ◌<◌, ◌≤◌, ℕ, ◌+◌, Bool, true, false, if◌then◌else◌, List, [], ◌∷◌, length, take, map}
use Rattle.std.proofs.Common.{Option, refl, ap, sym, ◌∙◌, arith, nat_lt, ◌==◌, length-take}
use Rattle.std.specs.List.{concat, sum}
use Rattle.std.proofs.lemmas.Grind.{common_steps}
use Rattle.std.proofs.lemmas.Bool.Decides.{nat_tests}
use Rattle.rlc_pdu.specs.declared.outcome.Taken.TheVariants as answers
use Rattle.rlc_queue.specs.Waiting.{HaveOctets, total, behind}
use Rattle.rlc_queue.specs.NewPdu.{room, may_follow, elements, rest}
use Rattle.rlc_queue.proofs.Lens.{whole, written}
use Rattle.rlc_queue.proofs.Steps.{octets-behind}
use Rattle.rlc_pdu.specs.Pdus.{AreLens}
use Rattle.rlc_am_tx_window.proofs.CutSteps.{sum-first, lens-some}
use Rattle.rlc_um.specs.Sender.{Sender, Turn, Gives, IsIdle, IsHeld, IsSmall, turn, answer, after_turn, head_of}
use Rattle.rlc_um.specs.Sender.{is_held, taken, after_take}
use Rattle.rlc_um.specs.Transparent.{Transparent, first_of, behind_first, taken as transparent_taken}
use Rattle.rlc_um.specs.Transparent.{after_take as after_transparent}
use Rattle.law_drain.specs.Queues.{pieces_in, UnacknowledgedFalls, TransparentFalls}

-- ---- a new PDU: its octets leave the queue

pub rest_total : (head size count used : ℕ) (sdus : List (List ℕ))
    → total (rest head size count used sdus) + length (concat (elements head size count used sdus)) ≡ total sdus
rest_total head size count used [] = refl
rest_total head size count used (x ∷ xs) =
    step (room head size count used) (room head size count used == 0) (may_follow (room head size count used) x)
    (λ e. grind (arith, nat_tests, common_steps)) (rest_total head size (count + 1) (used + length x) xs)
  where
    more : (y : List ℕ) (ys : List (List ℕ)) → length (concat (y ∷ ys)) ≡ length y + length (concat ys)
    more y ys = sym (whole (y ∷ ys)) ∙ sum-first (length y) (map length ys) ∙ ap (λ (n : ℕ). length y + n) (whole ys)

    step : (r : ℕ) (a b : Bool) → (b ≡ true → length x ≤ r)
        → total (rest head size (count + 1) (used + length x) xs)
        + length (concat (elements head size (count + 1) (used + length x) xs)) ≡ total xs
        → total (if a then x ∷ xs else if b then rest head size (count + 1) (used + length x) xs else behind r (x ∷ xs))
        + length (concat (if a then [] else take r x
        ∷ (if b then elements head size (count + 1) (used + length x) xs else []))) ≡ length x + total xs
    step r true b fits ih = omega arith
    step r false true fits ih =
        let one = more (take r x) (elements head size (count + 1) (used + length x) xs) in
        let all = length-take r x in
        omega (arith, one, ih, all, fits refl)
    step r false false fits ih =
        let one = more (take r x) [] in
        let left = octets-behind r (x ∷ xs) in
        omega (arith, one, left)

-- and there are some
elements-some : (head size : ℕ) (sdus : List (List ℕ)) → HaveOctets sdus → 0 < length sdus → head < size
    → 0 < length (concat (elements head size 0 0 sdus))
elements-some head size sdus h some fits =
    by (elements head size 0 0 sdus) (written head size sdus h some fits) (whole (elements head size 0 0 sdus))
  where
    by : (es : List (List ℕ)) → AreLens (map length es) → sum (map length es) ≡ length (concat es)
        → 0 < length (concat es)
    by es l w = let p = lens-some (map length es) l in omega (arith, p, w)

-- ---- unacknowledged mode

waiting-cut : (s : Sender) (size : ℕ) → HaveOctets s.waiting.sdus → 0 < length s.waiting.sdus → head_of s.bits < size
    → total (rest (head_of s.bits) size 0 0 s.waiting.sdus) + 1 ≤ total s.waiting.sdus
waiting-cut s size h some fits =
    omega (
      arith,
      rest_total (head_of s.bits) size 0 0 s.waiting.sdus,
      elements-some (head_of s.bits) size s.waiting.sdus h some fits,
    )

turn-falls : (t : Turn) (s : Sender) (size : ℕ) → (t ≡ Gives → total (rest (head_of s.bits) size 0 0 s.waiting.sdus) + 1
    ≤ total s.waiting.sdus)
    → total (after_turn t s size).waiting.sdus + pieces_in (answer t s size) ≤ total s.waiting.sdus
turn-falls Gives s size h = omega (arith, h refl)
turn-falls IsIdle s size h = omega arith
turn-falls IsHeld s size h = omega arith
turn-falls IsSmall s size h = omega arith

able : (s : Sender) (size : ℕ) (held : Option ℕ) → turn s size held ≡ Gives
    → (0 < length s.waiting.sdus) × (head_of s.bits < size)
able s size held = by (length s.waiting.sdus == 0) (is_held held s) (nat_lt size (head_of s.bits + 1))
    (λ e. grind (arith, nat_tests)) (λ e. grind (arith, nat_tests))
  where
    by : (a b c : Bool) → (a ≡ false → 0 < length s.waiting.sdus) → (c ≡ false → head_of s.bits < size)
        → (if a then IsIdle else if b then IsHeld else if c then IsSmall else Gives) ≡ Gives
        → (0 < length s.waiting.sdus) × (head_of s.bits < size)
    by true b c some fits e = absurd (idle e)
      where
        idle : IsIdle ≡ Gives → ⊥
        idle q = let no' : false ≡ true = ap is-giving q in cc
          where
            is-giving : Turn → Bool
            is-giving Gives = true
            is-giving IsIdle = false
            is-giving IsHeld = false
            is-giving IsSmall = false
    by false true c some fits e = cc
    by false false true some fits e = cc
    by false false false some fits e = (some refl, fits refl)

pub unacknowledged_falls : UnacknowledgedFalls
unfolding taken after_take
unacknowledged_falls s size held h =
    turn-falls (turn s size held) s size
    (λ e. let a = able s size held e in waiting-cut s size h a.0 a.1)

-- ---- transparent mode

pub transparent_falls : TransparentFalls
unfolding transparent_taken after_transparent
transparent_falls s size h = by s.waiting h
  where
    left : Bool → List ℕ → List (List ℕ) → Transparent
    left b sdu more = if b then record { next = s.next; waiting = sdu ∷ more }
        else record { next = s.next + 1; waiting = more }

    test : (b : Bool) (sdu : List ℕ) (more : List (List ℕ)) → 0 < length sdu
        → total (left b sdu more).waiting
        + pieces_in (if b then answers.Small else answers.Piece s.next true false sdu) ≤ length sdu + total more
    test true sdu more some = omega arith
    test false sdu more some = omega (arith, some)

    by : (sdus : List (List ℕ)) → HaveOctets sdus
        → total (behind_first s.next size sdus).waiting + pieces_in (first_of s.next size sdus) ≤ total sdus
    by [] h = omega arith
    by (sdu ∷ more) h = test (nat_lt size (length sdu)) sdu more h.0
