-- How a script is made and given, piece by piece.
use Rattle.std.proofs.Common.{◌≡◌, ◌≢◌, ℕ, zero, suc, ◌+◌, ◌-◌, ◌%◌, ◌≤◌, ◌∙◌, List, [], ◌++◌, ap, sym, length, take}
use Rattle.std.proofs.Common.{replicate, arith, append_assoc, append-nil, length-append}
use Rattle.std.specs.Prelude.{codes, Option, Some}
use Rattle.std.proofs.Math.Seq.{take-append-add}
use Rattle.hex.specs.Hex.{encode_lower}
use Rattle.script_generator.specs.Draws.{next, drawn}
use Rattle.script_generator.specs.Script.{sdu, step, after_step, steps, ending}
use Rattle.script_generator.specs.Fields.{to_come}

-- the line of an SDU, of which its front, its digits and its end were added
pub sdu_made : (old front : List ℕ) (i x size : ℕ) → size ≡ 1 + drawn 1400 (next x)
    → ((old ++ front) ++ encode_lower (replicate size (i % 256))) ++ codes "\n" ≡ old ++ sdu (Some front) i x
sdu_made old front i x size is =
    let digits : List ℕ = encode_lower (replicate (1 + drawn 1400 (next x)) (i % 256)) in
    ap (λ (n : ℕ). ((old ++ front) ++ encode_lower (replicate n (i % 256))) ++ codes "\n") is
    ∙ ap (λ (t : List ℕ). t ++ codes "\n") (append_assoc old front digits)
    ∙ append_assoc old (front ++ digits) (codes "\n")

-- a step, and those behind it
steps_more : (n i x : ℕ) → n ≢ 0 → steps n i x ++ ending ≡ step i x ++ (steps (n - 1) (i + 1) (after_step x) ++ ending)
unfolding steps
steps_more zero i x some = absurd (omega (arith, some))
steps_more (suc n) i x some =
    let behind : suc n - 1 ≡ n = omega arith in
    rw behind (append_assoc (step i x) (steps n (i + 1) (after_step x)) ending)

pub step_made : (left : Option ℕ) (n i x y : ℕ) (text : List ℕ) → left ≡ Some n → n ≢ 0 → text ≡ step i x
    → y ≡ after_step x
    → to_come left i x ≡ text ++ (steps (n - 1) (i + 1) y ++ ending)
step_made left n i x y text is some made after = rw (is, made, after) (steps_more n i x some)

pub ending_made : (left : Option ℕ) (n i x : ℕ) (text : List ℕ) → left ≡ Some n → n ≡ 0 → text ≡ ending
    → to_come left i x ≡ text ++ []
unfolding steps
ending_made left n i x text is none made = rw (is, none, made) (sym (append-nil ending))

-- one more piece was given behind a front
pub given_more : (whole front piece before after : List ℕ) (count n : ℕ) → length front ≡ count
    → whole ≡ front ++ before → before ≡ take n piece ++ after → whole ≡ take (count + n) (front ++ piece) ++ after
given_more whole front piece before after count n long so-far given =
    let text : take (count + n) (front ++ piece) ≡ front ++ take n piece =
    ap (λ (k : ℕ). take (k + n) (front ++ piece)) (sym long) ∙ take-append-add front piece n in
    so-far ∙ ap (λ (t : List ℕ). front ++ t) given ∙ sym (append_assoc front (take n piece) after)
    ∙ ap (λ (t : List ℕ). t ++ after) (sym text)

pub within_more : (front piece : List ℕ) (count n : ℕ) → length front ≡ count → n ≤ length piece
    → count + n ≤ length (front ++ piece)
within_more front piece count n long fits =
    let both : length (front ++ piece) ≡ length front + length piece = length-append front piece in
    omega (arith, both, long, fits)
