-- A block of SDUs has 2 octets fewer than the SDUs with 3 octets for each subheader, and so room for what fits behind
-- them.
use Rattle.std.proofs.Common.{◌≡◌, ◌≤◌, ◌<◌, ◌^◌, ℕ, ◌+◌, ◌-◌, ◌/◌, ◌%◌, nat_lt, Bool, true, false, if◌then◌else◌, List}
use Rattle.std.proofs.Common.{[], ◌∷◌, ◌++◌, length, map, refl, ap, ◌∙◌, subst, arith, length-append, append_assoc}
use Rattle.std.proofs.lemmas.List.Sums.{sum_by-cons}
use Rattle.mac_pdu.specs.declared.builder.Sdu.{Sdu}
use Rattle.mac_pdu.specs.declared.item.Bsr.{Bsr}
use Rattle.mac_pdu.specs.declared.item.Bsr.TheVariants.{Truncated, Short, Long}
use Rattle.mac_pdu.specs.declared.item.Control.{Control}
use Rattle.mac_pdu.specs.declared.item.Control.TheVariants.{Report}
use Rattle.mac_pdu.specs.Items.{MacItem, element, sdu, sdu_item, report_octets, control_octets}
use Rattle.mac_pdu.specs.Writing.{Parts, items_of, writing, inner, payload, length_field, report_size, with_control}
use Rattle.bearer_pdcp.specs.Shares.{in_block}
use Rattle.l2_node.specs.Writing.{taken_up, sdus_of, with_sdus}
use Rattle.l2_bits.specs.declared.limits.TheConstants.{OCTETS_LIMIT}

pub taken_up-append : (ss ts : List Sdu) → taken_up (ss ++ ts) ≡ taken_up ss + taken_up ts
taken_up-append [] ts = omega arith
taken_up-append (s ∷ ss) ts = omega (arith, taken_up-append ss ts)

by_length : (b : Bool) (n : ℕ) → length (if b then n ∷ [] else (128 + n / 256) ∷ (n % 256) ∷ []) ≤ 2
by_length true n = omega arith
by_length false n = omega arith

length_two : (n : ℕ) → length (length_field n) ≤ 2
length_two n = by_length (nat_lt n 128) n

abbrev items : List Sdu → List MacItem
items ss = map sdu_item ss

-- the octets of two items or more
behind : (p q : MacItem) (ps : List MacItem)
    → length (writing (p ∷ q ∷ ps)) ≡ length (inner p) + length (payload p) + length (writing (q ∷ ps))
behind p q ps = simp length-append (omega arith)

tight : (ss : List Sdu) → length (writing (items ss)) ≤ taken_up ss - 2
tight [] = omega arith
tight (s ∷ []) = simp length-append (omega arith)
tight (s ∷ t ∷ ss) =
    let ih = tight (t ∷ ss) in
    let more = behind (sdu_item s) (sdu_item t) (items ss) in
    let two = length_two (length s.octets) in
    omega (arith, ih, more, two)

items-append : (ss : List Sdu) (s : Sdu) → items ss ++ sdu_item s ∷ [] ≡ items (ss ++ s ∷ [])
items-append [] s = refl
items-append (t ∷ ss) s = ap (λ (xs : List MacItem). sdu_item t ∷ xs) (items-append ss s)

-- an SDU more
pub sdu_fits : (p : Parts) (s : Sdu) → p.controls ≡ [] → taken_up p.sdus + (length s.octets + 3) ≤ 9424
    → length (writing (items_of p ++ sdu s.lcid s.octets ∷ [])) < OCTETS_LIMIT
sdu_fits p s plain room =
    rw plain (rw (items-append p.sdus s) (omega (arith, tight (p.sdus ++ s ∷ []), taken_up-append p.sdus (s ∷ []))))

-- the SDUs alone
pub sdus_fit : (p : Parts) (grant : ℕ) → p.controls ≡ [] → taken_up p.sdus ≤ grant + 2
    → length (writing (items_of p)) ≤ grant
sdus_fit p grant plain room = rw plain (omega (arith, tight p.sdus))

-- a report before them
report_first : (c : Control) (ps : List MacItem)
    → length (writing (element c ∷ ps)) ≡ 1 + length (control_octets c) + length (writing ps)
report_first c [] = simp length-append (omega arith)
report_first c (q ∷ qs) = behind (element c) q qs

report_length : (r : Bsr) → length (report_octets r) ≡ report_size r
report_length (Truncated group level) = refl
report_length (Short group level) = refl
report_length (Long levels) = refl

pub report_fits : (p : Parts) (r : Bsr) (grant : ℕ) → p.controls ≡ [] → taken_up p.sdus ≤ grant + 2
    → 1 + report_size r ≤ grant - length (writing (items_of p))
    → length (writing (items_of (with_control (Report r) p))) ≤ grant
report_fits p r grant plain room fits =
    let alone : items_of p ≡ items p.sdus = rw plain refl in
    let size : 1 + report_size r ≤ grant - length (writing (items p.sdus)) =
    subst (λ (xs : List MacItem). 1 + report_size r ≤ grant - length (writing xs)) alone fits in
    rw plain (omega (arith, report_first (Report r) (items p.sdus), report_length r, size))

-- ---- PDUs become SDUs of a block, one after the other

pub first_in_block : (pdus rest : List (List ℕ)) (octets : List ℕ) → pdus ≡ octets ∷ rest
    → in_block pdus ≡ (length octets + 3) + in_block rest
first_in_block pdus rest octets e = rw e (sum_by-cons (λ (p : List ℕ). length p + 3) octets rest)

pub sdus_behind : (p q : Parts) (lcid : ℕ) (octets : List ℕ) (pdus rest : List (List ℕ)) → pdus ≡ octets ∷ rest
    → q ≡ with_sdus (record { lcid = lcid; octets = octets } ∷ []) p
    → with_sdus (sdus_of lcid rest) q ≡ with_sdus (sdus_of lcid pdus) p
sdus_behind p q lcid octets pdus rest e f =
    rw (e, f) (ap (λ (ss : List Sdu). record p { sdus = ss })
    (append_assoc p.sdus (record { lcid = lcid; octets = octets } ∷ []) (sdus_of lcid rest)))

pub taken_up_behind : (p q : Parts) (lcid : ℕ) (octets : List ℕ) (pdus rest : List (List ℕ)) → pdus ≡ octets ∷ rest
    → q ≡ with_sdus (record { lcid = lcid; octets = octets } ∷ []) p
    → taken_up q.sdus + in_block rest ≡ taken_up p.sdus + in_block pdus
taken_up_behind p q lcid octets pdus rest e f =
    let more = ap (λ (r : Parts). taken_up r.sdus) f
    ∙ taken_up-append p.sdus (record { lcid = lcid; octets = octets } ∷ []) in
    let one : taken_up (record { lcid = lcid; octets = octets } ∷ []) ≡ length octets + 3 = omega arith in
    omega (arith, more, one, first_in_block pdus rest octets e)
