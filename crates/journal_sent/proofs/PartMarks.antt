-- The marks of so many octets of one SDU, as they are added one behind the other.
use Rattle.std.proofs.Common.{◌≡◌, ℕ, zero, suc, ◌-◌, ◌≤◌, Bool, false, List, [], ◌∷◌, ◌++◌, replicate}
use Rattle.std.proofs.Common.{ap, sym, ◌∙◌, arith, append_assoc}
use Rattle.journal_sent.specs.Marks.{mark, part_marks}

many_marks : (begins ends : Bool) (n : ℕ) → 2 ≤ n
    → part_marks begins ends n ≡ mark begins false ∷ (replicate (n - 2) 0 ++ mark false ends ∷ [])
many_marks begins ends zero h = absurd (omega (arith, h))
many_marks begins ends (suc zero) h = absurd (omega (arith, h))
many_marks begins ends (suc (suc n)) h =
    let is : suc (suc n) - 2 ≡ n = omega arith in
    ap (λ (m : ℕ). mark begins false ∷ (replicate m 0 ++ mark false ends ∷ [])) (sym is)

pub adds : (marks : List ℕ) (begins ends : Bool) (n : ℕ) → 2 ≤ n
    → ((marks ++ mark begins false ∷ []) ++ replicate (n - 2) 0) ++ mark false ends ∷ []
    ≡ marks ++ part_marks begins ends n
adds marks begins ends n h =
    append_assoc (marks ++ mark begins false ∷ []) (replicate (n - 2) 0) (mark false ends ∷ [])
    ∙ append_assoc marks (mark begins false ∷ []) (replicate (n - 2) 0 ++ mark false ends ∷ [])
    ∙ ap (λ (l : List ℕ). marks ++ l) (sym (many_marks begins ends n h))
