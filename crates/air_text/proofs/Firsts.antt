-- A line whose first word is one of those that come most.
use Rattle.std.proofs.Common.{◌≡◌, List, ℕ, codes, true, refl, subst, sym}
use Rattle.std.proofs.lemmas.Slice.Eq.{bytes_eq-Decides}
use Rattle.std.specs.Str.{bytes_eq}
use Rattle.air_text.specs.Reading.{line_of, submit_of, tti_of}

pub line_submit : (first : List ℕ) (fields : List (List ℕ)) → bytes_eq first (codes "submit") ≡ true
    → line_of first fields ≡ submit_of fields
line_submit first fields e =
    subst (λ (word : List ℕ). line_of word fields ≡ submit_of fields)
    (sym ((bytes_eq-Decides first (codes "submit")).0 e)) refl

pub line_tti : (first : List ℕ) (fields : List (List ℕ)) → bytes_eq first (codes "tti") ≡ true
    → line_of first fields ≡ tti_of fields
line_tti first fields e =
    subst (λ (word : List ℕ). line_of word fields ≡ tti_of fields)
    (sym ((bytes_eq-Decides first (codes "tti")).0 e)) refl
