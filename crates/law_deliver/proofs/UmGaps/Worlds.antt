-- Two receivers of PDUs that are alike go on alike, and hand up SDUs of the same places.
use Rattle.std.proofs.Common.{◌≡◌, ℕ, zero, suc, ◌+◌, ◌-◌, ◌*◌, ◌==◌, nat_lt, max, Bool, true, false, ◌||◌}
use Rattle.std.proofs.Common.{if◌then◌else◌, List, [], ◌∷◌, length, Some, is_some, refl, ap, sym, ◌∙◌}
use Rattle.rlc_pdu.specs.Pdus.{UmdPdu}
use Rattle.rlc_pdu.specs.declared.outcome.Landed.{Landed}
use Rattle.rlc_pdu.specs.declared.outcome.Landed.TheVariants.{Kept, Repeat, Outside, Clash}
use Rattle.rlc_um.specs.Joined.{Parts, parts_of}
use Rattle.rlc_um.specs.Window.{number_of}
use Rattle.rlc_um.specs.Receiver.{State, landing}
use Rattle.law_rlc.specs.UmPair.Run.{Arrive, Expire, Tick, Up, World, Accepted, happens, accepts, found, is_accepted}
use Rattle.law_rlc.specs.UmPair.Run.{read_number}
use Rattle.law_rlc.specs.UmPair.Which.{Row, with_element, with_elements, with_parts, with_pdus, nothing_sent}
use Rattle.law_rlc.specs.UmPair.Which.{places_below}
use Rattle.um_losses.specs.Laws.{Outline, outline, AreAlike}
use Rattle.um_losses.proofs.Alike.{hear_alike, Landed-at, landed-is, number-is}
use Rattle.law_deliver.proofs.UmGaps.Tags.{AllAlike}

pub record Same (w t : World) : Type 0 where
  pub outline_is : outline w.state ≡ outline t.state
  pub top_is : w.top ≡ t.top
  pub accepted_is : (n : ℕ) → is_accepted w.accepted n ≡ is_accepted t.accepted n

-- ---- a PDU arrives

number_same : (w t : World) (p q : UmdPdu) → Same w t → AreAlike p q → read_number p w ≡ read_number q t
number_same w t p q h a =
    number-is w.state.window p.sn
    ∙ ap (λ (o : Outline). number_of o.window p.sn) h.outline_is
    ∙ sym (number-is t.state.window p.sn)
    ∙ ap (number_of t.state.window) a.sn

landing_as : (pdu : UmdPdu) (s : State) → landing pdu s ≡ Landed-at (outline s) (number_of s.window pdu.sn)
unfolding landing
landing_as pdu s = landed-is s (number_of s.window pdu.sn)

landing_same : (w t : World) (p q : UmdPdu) → Same w t → AreAlike p q → landing p w.state ≡ landing q t.state
landing_same w t p q h a =
    landing_as p w.state
    ∙ ap (λ (o : Outline). Landed-at o (number_of w.state.window p.sn)) h.outline_is
    ∙ ap (Landed-at (outline t.state)) (number_same w t p q h a)
    ∙ sym (landing_as q t.state)

accepts_some : (l : Landed) (x : ℕ) (p q : Parts) (f g : List Accepted) (n : ℕ) → is_accepted f n ≡ is_accepted g n
    → is_accepted (accepts l x p f) n ≡ is_accepted (accepts l x q g) n
accepts_some Kept x p q f g n h = kept_by (x == n) x p q f g n refl h
  where
    kept_by : (b : Bool) (x : ℕ) (p q : Parts) (f g : List Accepted) (n : ℕ) → (x == n) ≡ b
        → is_accepted f n ≡ is_accepted g n
        → is_some (if x == n then Some p else found f n) ≡ is_some (if x == n then Some q else found g n)
    kept_by true x p q f g n e h = ap (λ (b : Bool). is_some (if b then Some p else found f n)) e
        ∙ sym (ap (λ (b : Bool). is_some (if b then Some q else found g n)) e)
    kept_by false x p q f g n e h = ap (λ (b : Bool). is_some (if b then Some p else found f n)) e ∙ h
        ∙ sym (ap (λ (b : Bool). is_some (if b then Some q else found g n)) e)
accepts_some Repeat x p q f g n h = h
accepts_some Outside x p q f g n h = h
accepts_some Clash x p q f g n h = h

pub same_arrives : (w t : World) (p q : UmdPdu) → Same w t → AreAlike p q
    → Same (happens w (Arrive p)) (happens t (Arrive q))
same_arrives w t p q h a =
    let number = number_same w t p q h a in
    record {
      outline_is = (hear_alike w.state t.state h.outline_is).arrives p q a;
      top_is = ap (λ (n : ℕ). max n (read_number p w + 1)) h.top_is ∙ ap (λ (n : ℕ). max t.top (n + 1)) number;
      accepted_is = λ n.
          ap (λ (l : Landed). is_accepted (accepts l (read_number p w) (parts_of p) w.accepted) n)
          (landing_same w t p q h a)
          ∙ ap (λ (x : ℕ). is_accepted (accepts (landing q t.state) x (parts_of p) w.accepted) n) number
          ∙ accepts_some (landing q t.state) (read_number q t) (parts_of p) (parts_of q) w.accepted t.accepted n
          (h.accepted_is n);
    }

pub same_expires : (w t : World) → Same w t → Same (happens w Expire) (happens t Expire)
same_expires w t h = record {
  outline_is = (hear_alike w.state t.state h.outline_is).expires;
  top_is = h.top_is;
  accepted_is = h.accepted_is;
}

-- one of them counts a TTI
pub same_ticks : (w t : World) → Same w t → Same (happens w Tick) t
same_ticks w t h = record {
  outline_is = (hear_alike w.state t.state h.outline_is).ticks;
  top_is = h.top_is;
  accepted_is = h.accepted_is;
}

pub same_ups : (w t : World) → Same w t → Same (happens w Up) (happens t Up)
same_ups w t h = record {
  outline_is = (hear_alike w.state t.state h.outline_is).hands;
  top_is = h.top_is;
  accepted_is = h.accepted_is;
}

-- ---- the same places

elements_alike : (came begins ends : Bool) (xs ys : List (List ℕ)) (r : Row) → length xs ≡ length ys
    → with_elements came begins ends xs r ≡ with_elements came begins ends ys r
elements_alike came begins ends [] [] r e = refl
elements_alike came begins ends [] (y ∷ ys) r e = let no : 0 ≡ suc (length ys) = e in absurd cc
elements_alike came begins ends (x ∷ xs) [] r e = let no : suc (length xs) ≡ 0 = e in absurd cc
elements_alike came begins ends (x ∷ xs) (y ∷ ys) r e =
    let less : length xs ≡ length ys = one_less (length xs) (length ys) e in
    elements_alike came true ends xs ys (with_element came begins (ends || nat_lt 0 (length xs)) r) less
    ∙ ap (λ (n : ℕ). with_elements came true ends ys (with_element came begins (ends || nat_lt 0 n) r)) less
  where
    one_less : (n m : ℕ) → suc n ≡ suc m → n ≡ m
    one_less n m e = cc

parts_alike : (came : Bool) (p q : UmdPdu) (r : Row) → AreAlike p q
    → with_parts came (parts_of p) r ≡ with_parts came (parts_of q) r
parts_alike came p q r a =
    ap (λ (n : ℕ). with_parts came (parts_of (record p { fi = n })) r) a.fi
    ∙ elements_alike came (nat_lt q.fi 2) (parts_of q).ends p.elements q.elements _ a.elements

pub pdus_alike : (f g : List Accepted) (n from : ℕ) (ps qs : List UmdPdu) (r : Row)
    → ((k : ℕ) → is_accepted f k ≡ is_accepted g k) → AllAlike ps qs
    → with_pdus f from n ps r ≡ with_pdus g from n qs r
pdus_alike f g zero from ps qs r h a = refl
pdus_alike f g (suc n) from [] [] r h a = refl
pdus_alike f g (suc n) from [] (q ∷ qs) r h a = absurd a
pdus_alike f g (suc n) from (p ∷ ps) [] r h a = absurd a
pdus_alike f g (suc n) from (p ∷ ps) (q ∷ qs) r h a =
    pdus_alike f g n (from + 1) ps qs (with_parts (is_accepted f from) (parts_of p) r) h a.1
    ∙ ap (with_pdus g (from + 1) n qs) (ap (λ (b : Bool). with_parts b (parts_of p) r) (h from)
    ∙ parts_alike (is_accepted g from) p q r a.0)

pub places_alike : (width : ℕ) (w t : World) (edge : ℕ) (ps qs : List UmdPdu) → Same w t → AllAlike ps qs
    → places_below width w edge ps ≡ places_below width t edge qs
places_alike width w t edge ps qs h a =
    ap (λ (r : Row). r.places)
    (pdus_alike w.accepted t.accepted (edge - 2 * width) (2 * width) ps qs nothing_sent h.accepted_is a)
