-- Words for words: those that a line is printed with stand for those that it was read from.
use Rattle.std.proofs.Common.{◌≡◌, ◌<◌, ◌≤◌, ◌+◌, ◌==◌, ◌∙◌, ℕ, true, false, if◌then◌else◌, List, [], ◌∷◌, ◌++◌, length}
use Rattle.std.proofs.Common.{refl, sym, ap, arith, append_assoc, append-nil}
use Rattle.std.proofs.lemmas.List.{length-append}
use Rattle.air_record.specs.Text.{worded, ended}
use Rattle.air_text.specs.Words.{words_behind, words_of, spaced, joined}
use Rattle.journal_text.proofs.Cuts.{is_free, free-parts}

-- ---- the words of a text

-- words without spaces, none empty
abbrev pub AreWords : List (List ℕ) → Type 0
AreWords [] = Unit {0}
AreWords (w ∷ ws) = (0 < length w) × (is_free 32 w ≡ true) × AreWords ws

free-snoc : (cur : List ℕ) (x : ℕ) → is_free 32 cur ≡ true → (x == 32) ≡ false → is_free 32 (cur ++ x ∷ []) ≡ true
free-snoc [] x f other = rw other refl
free-snoc (y ∷ ys) x f other = let p = free-parts 32 y ys f in rw (p.0) (free-snoc ys x p.1 other)

some-word : (cur : List ℕ) → (length cur == 0) ≡ false → 0 < length cur
some-word [] e = cc
some-word (x ∷ xs) e = omega arith

words-sound : (cur xs : List ℕ) → is_free 32 cur ≡ true → AreWords (words_behind cur xs)
words-sound cur [] f =
    elim (length cur == 0) as (λ b. b ≡ (length cur == 0) → AreWords (if b then [] else cur ∷ [])) [
      | true ↦ λ e. tt
      | false ↦ λ e. (some-word cur (sym e), f, tt)
    ] refl
words-sound cur (x ∷ xs) f =
    elim (x == 32) as (λ b. b ≡ (x == 32) → AreWords (if b then (if length cur == 0 then words_behind [] xs
    else cur ∷ words_behind [] xs) else words_behind (cur ++ x ∷ []) xs)) [
      | true ↦ λ space.
          elim (length cur == 0) as (λ b. b ≡ (length cur == 0)
          → AreWords (if b then words_behind [] xs else cur ∷ words_behind [] xs)) [
            | true ↦ λ e. words-sound [] xs refl
            | false ↦ λ e. (some-word cur (sym e), f, words-sound [] xs refl)
          ] refl
      | false ↦ λ e. words-sound (cur ++ x ∷ []) xs (free-snoc cur x f (sym e))
    ] refl

pub are_words : (text : List ℕ) → AreWords (words_of text)
are_words text = words-sound [] text refl

-- ---- words with a space between two

spaced-short : (ws : List (List ℕ)) → length (spaced ws) ≤ 1 + length (joined ws)
spaced-short [] = omega arith
spaced-short (w ∷ ws) = omega arith

joined-short : (cur xs : List ℕ) → length (joined (words_behind cur xs)) ≤ length cur + length xs
joined-short cur [] =
    elim (length cur == 0) as (λ b. length (joined (if b then [] else cur ∷ [])) ≤ length cur + 0) [
      | true ↦ omega arith
      | false ↦ omega (arith, ap (λ (l : List ℕ). length l) (append-nil cur))
    ]
joined-short cur (x ∷ xs) =
    elim (x == 32) as (λ b. length (joined (if b then (if length cur == 0 then words_behind [] xs
    else cur ∷ words_behind [] xs) else words_behind (cur ++ x ∷ []) xs)) ≤ length cur + length (x ∷ xs)) [
      | true ↦
          elim (length cur == 0) as (λ b. length (joined (if b then words_behind [] xs else cur ∷ words_behind [] xs))
          ≤ length cur + length (x ∷ xs)) [
            | true ↦ omega (arith, joined-short [] xs)
            | false ↦
                omega (
                  arith,
                  joined-short [] xs,
                  spaced-short (words_behind [] xs),
                  length-append cur (spaced (words_behind [] xs)),
                )
          ]
      | false ↦ omega (arith, joined-short (cur ++ x ∷ []) xs, length-append cur (x ∷ []))
    ]

pub words_short : (text : List ℕ) → length (joined (words_of text)) ≤ length text
words_short text = omega (arith, joined-short [] text)

-- ---- their words again

last-word : (cur w : List ℕ) → is_free 32 w ≡ true → 0 < length cur + length w → words_behind cur w ≡ (cur ++ w) ∷ []
last-word cur [] f some =
    let full : (length cur == 0) ≡ false = grind (arith, some) in rw (full, append-nil cur) refl
last-word cur (x ∷ xs) f some =
    let p = free-parts 32 x xs f in
    let more = length-append cur (x ∷ []) in
    rw (p.0) (last-word (cur ++ x ∷ []) xs p.1 (omega (arith, more))
    ∙ ap (λ (w : List ℕ). w ∷ []) (append_assoc cur (x ∷ []) xs))

front-word : (cur w rest : List ℕ) → is_free 32 w ≡ true → 0 < length cur + length w
    → words_behind cur (w ++ (32 ∷ rest)) ≡ (cur ++ w) ∷ words_behind [] rest
front-word cur [] rest f some =
    let full : (length cur == 0) ≡ false = grind (arith, some) in rw (full, append-nil cur) refl
front-word cur (x ∷ xs) rest f some =
    let p = free-parts 32 x xs f in
    let more = length-append cur (x ∷ []) in
    rw (p.0) (front-word (cur ++ x ∷ []) xs rest p.1 (omega (arith, more))
    ∙ ap (λ (w : List ℕ). w ∷ words_behind [] rest) (append_assoc cur (x ∷ []) xs))

again-behind : (w : List ℕ) (ws : List (List ℕ)) → AreWords (w ∷ ws) → words_behind [] (w ++ spaced ws) ≡ w ∷ ws
again-behind w [] h =
    ap (λ (t : List ℕ). words_behind [] t) (append-nil w) ∙ last-word [] w h.1 (omega (arith, h.0))
again-behind w (v ∷ ws) h =
    front-word [] w (v ++ spaced ws) h.1 (omega (arith, h.0))
    ∙ ap (λ (r : List (List ℕ)). w ∷ r) (again-behind v ws h.2)

pub words_again : (ws : List (List ℕ)) → AreWords ws → words_of (joined ws) ≡ ws
words_again [] h = refl
words_again (w ∷ ws) h = again-behind w ws h

-- ---- and a line feed behind them

pub spaced_ended : (ws : List (List ℕ)) → spaced ws ++ 10 ∷ [] ≡ ended ws
spaced_ended [] = refl
spaced_ended (w ∷ ws) =
    ap (λ (r : List ℕ). 32 ∷ r) (append_assoc w (spaced ws) (10 ∷ []) ∙ ap (λ (r : List ℕ). w ++ r) (spaced_ended ws))

pub joined_ended : (ws : List (List ℕ)) → joined ws ++ 10 ∷ [] ≡ worded ws
joined_ended [] = refl
joined_ended (w ∷ ws) = append_assoc w (spaced ws) (10 ∷ []) ∙ ap (λ (r : List ℕ). w ++ r) (spaced_ended ws)

-- ---- words that are like others

-- a word as long as another, and without a space where that has none
pub record IsLike (w c : List ℕ) : Type 0 where
  pub as_long : length c ≡ length w
  pub free : is_free 32 w ≡ true → is_free 32 c ≡ true

pub itself : (w : List ℕ) → IsLike w w
itself w = record { as_long = refl; free = λ h. h }

abbrev pub AreLike : List (List ℕ) → List (List ℕ) → Type 0
AreLike [] [] = Unit {0}
AreLike [] (c ∷ cs) = ⊥
AreLike (w ∷ ws) [] = ⊥
AreLike (w ∷ ws) (c ∷ cs) = IsLike w c × AreLike ws cs

pub themselves : (ws : List (List ℕ)) → AreLike ws ws
themselves [] = tt
themselves (w ∷ ws) = (itself w, themselves ws)

pub words_like : (ws cs : List (List ℕ)) → AreLike ws cs → AreWords ws → AreWords cs
words_like [] [] like h = tt
words_like [] (c ∷ cs) like h = absurd like
words_like (w ∷ ws) [] like h = absurd like
words_like (w ∷ ws) (c ∷ cs) like h =
    (omega (arith, like.0.as_long, h.0), like.0.free h.1, words_like ws cs like.1 h.2)

spaced-like : (ws cs : List (List ℕ)) → AreLike ws cs → length (spaced cs) ≡ length (spaced ws)
spaced-like [] [] like = refl
spaced-like [] (c ∷ cs) like = absurd like
spaced-like (w ∷ ws) [] like = absurd like
spaced-like (w ∷ ws) (c ∷ cs) like =
    omega (
      arith,
      like.0.as_long,
      spaced-like ws cs like.1,
      length-append w (spaced ws),
      length-append c (spaced cs),
    )

pub joined_like : (ws cs : List (List ℕ)) → AreLike ws cs → length (joined cs) ≡ length (joined ws)
joined_like [] [] like = refl
joined_like [] (c ∷ cs) like = absurd like
joined_like (w ∷ ws) [] like = absurd like
joined_like (w ∷ ws) (c ∷ cs) like =
    omega (
      arith,
      like.0.as_long,
      spaced-like ws cs like.1,
      length-append w (spaced ws),
      length-append c (spaced cs),
    )
