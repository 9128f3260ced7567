-- The elements that are whole SDUs, one after the other.
use Rattle.std.proofs.Common.{◌≡◌, ◌∙◌, ℕ, Bool, true, false, List, [], ◌∷◌, ◌++◌, map, Option, Some, None, refl, sym}
use Rattle.std.proofs.Common.{ap, append_assoc, append-nil}
use Rattle.std.specs.Prelude.{is_some}
use Rattle.std.specs.Borrow.{Bor}
use Rattle.std.proofs.lemmas.List.{map-append}
use Rattle.air_record.specs.declared.record.Record.{Record}
use Rattle.pdu_show.specs.Show.{whole, whole_by, one_where, listed}

-- the first element, and then the others, of which each begins an SDU
pub whole-step : (first last : Bool) (x : List ℕ) (next : Option (Bor (List ℕ))) (more : List (List ℕ))
    → whole first last (x ∷ listed next more) ≡ one_where (whole_by first last (is_some next)) x
    ++ whole true last (listed next more)
unfolding whole
whole-step true true x None more = refl
whole-step true false x None more = refl
whole-step false last x None more = refl
whole-step true last x (Some one) more = refl
whole-step false last x (Some one) more = refl

-- one more element was shown
pub shown-step : (f : List ℕ → Record) (first last : Bool) (x : List ℕ) (next : Option (Bor (List ℕ)))
    (more : List (List ℕ)) (before records : List Record)
    → records ≡ before ++ map f (one_where (whole_by first last (is_some next)) x)
    → records ++ map f (whole true last (listed next more)) ≡ before ++ map f (whole first last (x ∷ listed next more))
shown-step f first last x next more before records is =
    ap (λ (done : List Record). done ++ map f (whole true last (listed next more))) is
    ∙ append_assoc before (map f (one_where (whole_by first last (is_some next)) x))
    (map f (whole true last (listed next more)))
    ∙ ap (λ (rest : List Record). before ++ rest)
    (sym (map-append f (one_where (whole_by first last (is_some next)) x) (whole true last (listed next more)))
    ∙ ap (map f) (sym (whole-step first last x next more)))

-- none is left
pub none-left : (f : List ℕ → Record) (first last : Bool) (records target : List Record)
    → records ++ map f (whole first last []) ≡ target → records ≡ target
unfolding whole
none-left f first last records target is = sym (append-nil records) ∙ is
