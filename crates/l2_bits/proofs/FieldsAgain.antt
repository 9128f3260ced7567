-- Fields that were written are read again.
use Rattle.std.proofs.Common.{◌≡◌, List, [], ◌∷◌, ◌++◌, Bool, Some, map, All, refl, ap, ◌∙◌, append_assoc}
use Rattle.std.proofs.lemmas.List.Elements.{All-head, All-tail}
use Rattle.l2_bits.specs.Bits.{bits}
use Rattle.l2_bits.specs.Laws.{Field, Fits, written, taken, read_on, ahead_of}
use Rattle.l2_bits.proofs.BitFields.{field_again}

pub fields_again : (fields : List Field) (rest : List Bool) → All Fits fields
    → taken (map (λ f. f.width) fields) (written fields ++ rest) ≡ Some (map (λ f. f.value) fields, rest)
unfolding taken
fields_again [] rest fit = refl
fields_again (f ∷ fs) rest fit =
    let widths = map (λ (g : Field). g.width) fs in
    let first = field_again f.width f.value (written fs ++ rest) (All-head Fits f fs fit) in
    let behind = fields_again fs rest (All-tail Fits f fs fit) in
    ap (λ (b : List Bool). taken (f.width ∷ widths) b) (append_assoc (bits f.width f.value) (written fs) rest)
    ∙ ap (λ o. read_on o (taken widths)) first ∙ ap (ahead_of f.value) behind
