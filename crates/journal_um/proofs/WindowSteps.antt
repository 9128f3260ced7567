-- One step of what goes over the numbers that are kept.
use Rattle.std.proofs.Common.{◌≡◌, ◌<◌, ◌≤◌, ℕ, ◌-◌, List, [], ◌∷◌, ◌++◌, length, drop, take, replicate, Option, None}
use Rattle.std.proofs.Common.{false, is_some, zero, refl, append_assoc, length-append, ap, sym, ◌∙◌, arith, suc}
use Rattle.std.proofs.lemmas.List.{append-nil, get_or_past, take_all, drop_all}
use Rattle.journal_um.specs.declared.pieces.Piece.{Piece}
use Rattle.journal_um.specs.UmJoiner.{UmJoiner, with_pdu, with_pdus}
use Rattle.journal_um.specs.UmWindow.{grown, pdu_at}

pub grown-more : (pdus : List (Option (List Piece))) (size : ℕ) → length pdus < size
    → grown (pdus ++ None ∷ []) size ≡ grown pdus size
grown-more pdus size h =
    let more : size - length pdus ≡ suc (size - length (pdus ++ None ∷ [])) =
    omega (arith, length-append pdus (None ∷ [])) in
    append_assoc pdus (None ∷ []) (replicate (size - length (pdus ++ None ∷ [])) None)
    ∙ ap (λ n. pdus ++ replicate n None) (sym more)

pub grown-end : (pdus : List (Option (List Piece))) (size : ℕ) → size ≤ length pdus → grown pdus size ≡ pdus
grown-end pdus size h = let none : size - length pdus ≡ 0 = omega arith in
    ap (λ n. pdus ++ replicate n None) none ∙ append-nil pdus

pub ruleset grows = (grown-more, grown-end)

pub pdu_past : (pdus : List (Option (List Piece))) (at : ℕ) → length pdus ≤ at → is_some (pdu_at pdus at) ≡ false
pdu_past pdus at h = ap is_some (get_or_past pdus at None h)

pub joined-step : (n : ℕ) (pdus : List (Option (List Piece))) (j : UmJoiner) → 0 < n → n ≤ length pdus
    → with_pdus (take n pdus) j ≡ with_pdus (take (n - 1) (drop 1 pdus)) (with_pdu (pdu_at pdus 0) j)
joined-step zero pdus j h g = absurd (omega arith)
joined-step (suc n) [] j h g = absurd (omega arith)
joined-step (suc n) (s ∷ ss) j h g = let e : suc n - 1 ≡ n = omega arith in rw e refl

pub drop-step : (n : ℕ) (pdus : List (Option (List Piece))) → 0 < n → drop n pdus ≡ drop (n - 1) (drop 1 pdus)
drop-step zero pdus h = absurd (omega arith)
drop-step (suc n) [] h = let e : suc n - 1 ≡ n = omega arith in rw e (sym (drop_all n [] (omega arith)))
drop-step (suc n) (s ∷ ss) h = let e : suc n - 1 ≡ n = omega arith in rw e refl

pub ruleset passes = (joined-step, drop-step)

pub take_whole : (pdus : List (Option (List Piece))) → take (length pdus) pdus ≡ pdus
take_whole pdus = take_all (length pdus) pdus (omega arith)
