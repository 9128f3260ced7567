-- The lines of a text behind a terminal's digit, one after another.
use Rattle.std.proofs.Common.{◌≡◌, ◌+◌, ◌∙◌, ◌==◌, ℕ, List, [], ◌∷◌, ◌++◌, refl, ap, sym, cond, true, false, arith}
use Rattle.std.proofs.Common.{length, take, drop, append_assoc, flat_map}
use Rattle.std.proofs.Math.Seq.{take-append-add}
use Rattle.std.proofs.lemmas.List.{length-take-le}
use Rattle.l2_io.specs.Feeds.{until_feed, from_feed, IsFeedAt}
use Rattle.line_player.proofs.Cutting.{lines-line, lines-none}
use Rattle.cell_run.specs.Entries.{labelled, numbered}

-- the first line
numbered-line : (user : ℕ) (xs : List ℕ) (i : ℕ) → IsFeedAt xs i
    → numbered user xs ≡ labelled user (take i xs) ++ numbered user (drop (i + 1) xs)
numbered-line user xs i at =
    ap (flat_map (labelled user)) (lines-line xs (drop (i + 1) xs) at.rest)
    ∙ ap (λ (t : List ℕ). labelled user t ++ numbered user (drop (i + 1) xs)) at.line

both-parts : (xs : List ℕ) → until_feed xs ++ from_feed xs ≡ xs
both-parts [] = refl
both-parts (x ∷ xs) =
    elim (x == 10) as (λ b. cond b [] (x ∷ until_feed xs) ++ cond b (x ∷ xs) (from_feed xs) ≡ x ∷ xs) [
      | true ↦ refl
      | false ↦ ap (λ (t : List ℕ). x ∷ t) (both-parts xs)
    ]

-- the first line with its line feed
ended-line : (xs : List ℕ) (i : ℕ) → IsFeedAt xs i → take (i + 1) xs ≡ take i xs ++ 10 ∷ []
ended-line xs i at =
    let parts : xs ≡ take i xs ++ 10 ∷ drop (i + 1) xs = sym (both-parts xs)
    ∙ ap (λ (t : List ℕ). t ++ from_feed xs) at.line ∙ ap (λ (t : List ℕ). take i xs ++ t) at.rest in
    let size : length (take i xs) ≡ i = length-take-le i xs (omega (arith, at.inside)) in
    ap (λ (n : ℕ). take (n + 1) xs) (sym size)
    ∙ ap (take (length (take i xs) + 1)) parts
    ∙ take-append-add (take i xs) (10 ∷ drop (i + 1) xs) 1

-- a line added piece by piece
added : (out line more : List ℕ) (digit : ℕ)
    → (((out ++ digit ∷ []) ++ 32 ∷ []) ++ line) ++ more ≡ out ++ (digit ∷ 32 ∷ (line ++ more))
added out line more digit =
    append_assoc ((out ++ digit ∷ []) ++ 32 ∷ []) line more
    ∙ append_assoc (out ++ digit ∷ []) (32 ∷ []) (line ++ more)
    ∙ append_assoc out (digit ∷ []) (32 ∷ (line ++ more))

-- the next line was added
pub numbered-next : (user : ℕ) (out a b c rest line behind : List ℕ) (i : ℕ) → IsFeedAt rest i
    → a ≡ out ++ (48 + user) ∷ [] → b ≡ a ++ 32 ∷ [] → c ≡ b ++ line → line ≡ take (i + 1) rest
    → behind ≡ drop (i + 1) rest → c ++ numbered user behind ≡ out ++ numbered user rest
numbered-next user out a b c rest line behind i at first second third is later =
    rw (third, second, first, is, later)
    (added out (take (i + 1) rest) (numbered user (drop (i + 1) rest)) (48 + user)
    ∙ ap (λ (t : List ℕ). out ++ (48 + user) ∷ 32 ∷ (t ++ numbered user (drop (i + 1) rest))) (ended-line rest i at)
    ∙ ap (λ (t : List ℕ). out ++ t) (sym (numbered-line user rest i at)))

-- no line
pub numbered-none : (user : ℕ) (xs : List ℕ) → from_feed xs ≡ [] → numbered user xs ≡ []
numbered-none user xs none = ap (flat_map (labelled user)) (lines-none xs none)
