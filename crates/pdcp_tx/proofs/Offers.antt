-- The sizes of what may be taken.
use Rattle.std.proofs.Common.{◌≡◌, ◌<◌, ◌≤◌, ℕ, suc, zero, ◌+◌, ◌-◌, ◌*◌, ◌^◌, List, [], ◌∷◌, ◌++◌, length, map, take}
use Rattle.std.proofs.Common.{Option, Some, None, option_map, is_some, if◌then◌else◌, length-append, length-take-le}
use Rattle.std.proofs.Common.{refl, ap, sym, ◌∙◌, arith}
use Rattle.std.proofs.lemmas.List.{length-map}
use Rattle.std.proofs.Math.Nat.{mul-le-mul_right}
use Rattle.pdcp_pdu.specs.declared.pdu.PdcpKind.{PdcpKind}
use Rattle.pdcp_tx.specs.Pdus.{extra}
use Rattle.pdcp_tx_store.specs.declared.given.Sent.{Sent}
use Rattle.pdcp_tx_store.specs.Waiting.{Waits, length_all}
use Rattle.pdcp_tx_store.specs.Given.{sent_octets}
use Rattle.pdcp_tx.specs.State.{State, offers, Offer, owed_offers, again_offer, new_offers, sizes, or_else}

sizes_append : (k : PdcpKind) (a b : List Offer) → sizes k (a ++ b) ≡ sizes k a + sizes k b
sizes_append k [] b = omega arith
sizes_append k (o ∷ os) b = let ih = sizes_append k os b in omega arith

sizes_again : (k : PdcpKind) (ss : List Sent) → sizes k (map again_offer ss) ≡ sent_octets ss + length ss * extra k
sizes_again k [] = omega arith
sizes_again k (s ∷ ss) = let ih = sizes_again k ss in grind arith

sizes_new : (k : PdcpKind) (n : ℕ) (ws : List Waits) → sizes k (new_offers n ws) ≡ length_all ws + length ws * extra k
sizes_new k n [] = omega arith
sizes_new k n (w ∷ ws) = let ih = sizes_new k (n + 1) ws in grind arith

sizes_owed : (k : PdcpKind) (o : Option (List ℕ)) → sizes k (owed_offers o) ≡ or_else (option_map length o) 0
sizes_owed k None = refl
sizes_owed k (Some r) = omega arith

-- all of them
pub all_sizes : (k : PdcpKind) (o : Option (List ℕ)) (ss : List Sent) (n : ℕ) (ws : List Waits)
    → sizes k (owed_offers o ++ map again_offer ss ++ new_offers n ws)
    ≡ or_else (option_map length o) 0 + (sent_octets ss + length ss * extra k) + (length_all ws + length ws * extra k)
all_sizes k o ss n ws =
    omega (
      arith,
      sizes_append k (owed_offers o ++ map again_offer ss) (new_offers n ws),
      sizes_append k (owed_offers o) (map again_offer ss),
      sizes_owed k o,
      sizes_again k ss,
      sizes_new k n ws,
    )

length_new : (n : ℕ) (ws : List Waits) → length (new_offers n ws) ≡ length ws
length_new n [] = refl
length_new n (w ∷ ws) = ap suc (length_new (n + 1) ws)

length_owed : (o : Option (List ℕ)) → length (owed_offers o) ≡ (if is_some o then 1 else 0)
length_owed None = refl
length_owed (Some r) = refl

pub all_needs : (o : Option (List ℕ)) (ss : List Sent) (n : ℕ) (ws : List Waits)
    → length (owed_offers o ++ map again_offer ss ++ new_offers n ws)
    ≡ (if is_some o then 1 else 0) + length ss + length ws
all_needs o ss n ws =
    omega (
      arith,
      length-append (owed_offers o ++ map again_offer ss) (new_offers n ws),
      length-append (owed_offers o) (map again_offer ss),
      length_owed o,
      length-map ss again_offer,
      length_new n ws,
    )

pub times_few : (a b : ℕ) → a ≤ 2 ^ 32 → b ≤ 5 → a * b ≤ 2 ^ 35
times_few a b h g = omega (arith, mul-le-mul_right {m = a} {n = 2 ^ 32} b h)

pub octets_are : (s : State) (room : ℕ) → room ≤ length s.waiting
    → take room s.waiting ≡ take (s.bound - s.next) s.waiting
    → or_else (option_map length s.owed) 0 + (sent_octets s.again + length s.again * extra s.kind)
    + (length_all (take room s.waiting) + room * extra s.kind) ≡ sizes s.kind (offers s)
unfolding offers
octets_are s room le e =
    let all = all_sizes s.kind s.owed s.again s.next (take room s.waiting) in
    let l = length-take-le room s.waiting le in
    ap (λ (n : ℕ). or_else (option_map length s.owed) 0 + (sent_octets s.again + length s.again * extra s.kind)
    + (length_all (take room s.waiting) + n * extra s.kind)) (sym l)
    ∙ sym all ∙ ap (λ ws. sizes s.kind (owed_offers s.owed ++ map again_offer s.again ++ new_offers s.next ws)) e

pub first_taken : (n : ℕ) (w : Waits) (ws : List Waits) → 0 < n → take n (w ∷ ws) ≡ w ∷ take (n - 1) ws
first_taken zero w ws lt = absurd (omega arith)
first_taken (suc n) w ws lt = let e : suc n - 1 ≡ n = omega arith in ap (λ (m : ℕ). w ∷ take m ws) (sym e)

pub none_taken : (a b : ℕ) (ws : List Waits) → a ≤ b → take (a - b) ws ≡ []
none_taken a b ws le = let e : a - b ≡ 0 = omega arith in ap (λ (n : ℕ). take n ws) e

pub ruleset firsts = (first_taken, none_taken)

pub needs_are : (s : State) (room : ℕ) → room ≤ length s.waiting
    → take room s.waiting ≡ take (s.bound - s.next) s.waiting
    → (if is_some s.owed then 1 else 0) + length s.again + room ≡ length (offers s)
unfolding offers
needs_are s room le e =
    let all = all_needs s.owed s.again s.next (take room s.waiting) in
    let l = length-take-le room s.waiting le in
    ap (λ (n : ℕ). (if is_some s.owed then 1 else 0) + length s.again + n) (sym l)
    ∙ sym all ∙ ap (λ ws. length (owed_offers s.owed ++ map again_offer s.again ++ new_offers s.next ws)) e
