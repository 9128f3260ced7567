-- What a source gave while lines were cut.
use Rattle.std.proofs.Common.{◌≡◌, inl, ℕ, List, [], ◌++◌, refl, ap, sym, subst, ◌∙◌, append_assoc}
use Rattle.std.specs.Prelude.{Option, None, Some}
use Rattle.l2_io.specs.Known.{before}
use Rattle.l2_io.specs.Cutting.{Cutter, Cuts, CutsKept}
use Rattle.l2_io.specs.declared.lines.Turn.{Turn}

-- what a source gave since, which stands behind what was kept
pub record HasGiven (left left' : Option (List ℕ)) (kept kept' : List ℕ) : Type 0 where
  pub given : List ℕ
  pub left_is : left ≡ before given left'
  pub kept_is : kept' ≡ kept ++ given

pub before-before : (a b : List ℕ) (left : Option (List ℕ)) → before a (before b left) ≡ before (a ++ b) left
before-before a b None = refl
before-before a b (Some xs) = ap Some (sym (append_assoc a b xs))

pub before-nothing : (left : Option (List ℕ)) → before [] left ≡ left
before-nothing None = refl
before-nothing (Some xs) = refl

-- what was given at last stands behind what was given before
pub given_more : {left left' left'' : Option (List ℕ)} {first kept kept' : List ℕ} (given : List ℕ)
    → HasGiven left left' first kept → left' ≡ before given left'' → kept' ≡ kept ++ given
    → HasGiven left left'' first kept'
given_more {left'' = left''} {first = first} given h left_is kept_is = record {
  given = h.given ++ given;
  left_is = h.left_is ∙ ap (before h.given) left_is ∙ before-before h.given given left'';
  kept_is = kept_is ∙ ap (λ xs. xs ++ given) h.kept_is ∙ append_assoc first h.given given;
}

-- what was kept and then given was cut
pub cut_given : {left left' : Option (List ℕ)} {first kept : List ℕ} {fault : Type 0} {turn : Turn} {new : Cutter}
    → HasGiven left left' first kept → CutsKept kept turn new
    → (given : List ℕ) × (left ≡ before given left') × Cuts (first ++ given) left' fault turn new
cut_given {turn = turn} {new = new} h cuts =
    (h.given, h.left_is, inl (subst (λ xs. CutsKept xs turn new) h.kept_is cuts))
