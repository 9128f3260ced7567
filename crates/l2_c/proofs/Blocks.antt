-- An item more at the end of a builder, and how much a block grows by it.
use Rattle.std.proofs.Common.{◌≡◌, ℕ, ◌+◌, ◌≤◌, List, [], ◌∷◌, ◌++◌, length, map, refl, ap, ◌∙◌, sym, arith}
use Rattle.std.proofs.Common.{append_assoc}
use Rattle.std.proofs.lemmas.List.{append-nil}
use Rattle.mac_pdu.specs.declared.item.Direction.{Direction}
use Rattle.mac_pdu.specs.declared.item.Direction.TheVariants.{Down, Up}
use Rattle.mac_pdu.specs.declared.item.Bsr.TheVariants as bsr
use Rattle.mac_pdu.specs.declared.item.Control.{Control}
use Rattle.mac_pdu.specs.declared.item.Control.TheVariants as control
use Rattle.mac_pdu.specs.declared.builder.Sdu.{Sdu}
use Rattle.mac_pdu.specs.Items.{MacItem, element, sdu, sdu_item, IsControl, control_octets}
use Rattle.mac_pdu.specs.Laws.{WritingGrows}
use Rattle.mac_pdu.specs.Writing.{Parts, items_of, with_control, writing}

map_end : {A B : Type 0} (f : A → B) (xs : List A) (x : A) → map f (xs ++ x ∷ []) ≡ map f xs ++ f x ∷ []
map_end f [] x = refl
map_end f (y ∷ xs) x = ap (λ (ys : List _). f y ∷ ys) (map_end f xs x)

pub one_control : (b : Parts) (c : Control) → b.sdus ≡ []
    → items_of (with_control c b) ≡ items_of b ++ element c ∷ []
one_control b c none =
    rw none
    (append-nil (map element (b.controls ++ c ∷ [])) ∙ map_end element b.controls c
    ∙ ap (λ (ps : List MacItem). ps ++ element c ∷ []) (sym (append-nil (map element b.controls))))

pub one_sdu : (b : Parts) (s : Sdu)
    → items_of (record b { sdus = b.sdus ++ s ∷ [] }) ≡ items_of b ++ sdu s.lcid s.octets ∷ []
one_sdu b s =
    ap (λ (ps : List MacItem). map element b.controls ++ ps) (map_end sdu_item b.sdus s)
    ∙ sym (append_assoc (map element b.controls) (map sdu_item b.sdus) (sdu_item s ∷ []))

-- a control element has at most six octets
pub few_octets : (d : Direction) (c : Control) → IsControl d c → length (control_octets c) ≤ 6
few_octets Down (control.Contention id) fits = omega (arith, fits)
few_octets Down (control.Advance value) fits = omega arith
few_octets Down control.Drx fits = omega arith
few_octets Down (control.Phr level) fits = elim fits [ ]
few_octets Down (control.Crnti value) fits = elim fits [ ]
few_octets Down (control.Report _) fits = elim fits [ ]
few_octets Up (control.Contention id) fits = elim fits [ ]
few_octets Up (control.Advance value) fits = elim fits [ ]
few_octets Up control.Drx fits = elim fits [ ]
few_octets Up (control.Phr level) fits = omega arith
few_octets Up (control.Crnti value) fits = omega arith
few_octets Up (control.Report (bsr.Truncated group level)) fits = omega arith
few_octets Up (control.Report (bsr.Short group level)) fits = omega arith
few_octets Up (control.Report (bsr.Long levels)) fits = omega arith

pub control_grows : WritingGrows → (d : Direction) (b : Parts) (c : Control) → b.sdus ≡ [] → IsControl d c
    → length (writing (items_of (with_control c b))) ≤ length (writing (items_of b)) + 9
control_grows grows d b c none fits =
    rw (one_control b c none) (omega (arith, grows (items_of b) (element c), few_octets d c fits))

pub sdu_grows : WritingGrows → (b : Parts) (lcid : ℕ) (octets : List ℕ)
    → length (writing (items_of b ++ sdu lcid octets ∷ [])) ≤ length (writing (items_of b)) + 3 + length octets
sdu_grows grows b lcid octets = grows (items_of b) (sdu lcid octets)

pub ruleset collected = (one_control, one_sdu, few_octets, control_grows, sdu_grows)
