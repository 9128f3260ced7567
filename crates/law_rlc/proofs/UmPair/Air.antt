-- Both ends together.
use Rattle.std.proofs.Common.{◌≡◌, ◌<◌, ◌≤◌, ◌⊎◌, inl, inr, ℕ, suc, zero, ◌+◌, ◌-◌, ◌*◌, ◌%◌, true, List, [], ◌∷◌, ◌++◌}
use Rattle.std.proofs.Common.{Option, Some, None, refl, ap, sym, subst, ◌∙◌, arith, slice_index_or, slice_get}
use Rattle.std.proofs.Common.{option_map, ◌^◌, ◌==◌, ⊎_elim}
use Rattle.std.proofs.lemmas.Bool.{cases_eq, eq-eqb}
use Rattle.l2_num.specs.Numbers.{ahead}
use Rattle.rlc_pdu.specs.Pdus.{UmdPdu, IsUmBits}
use Rattle.rlc_pdu.specs.declared.outcome.Landed.{Landed}
use Rattle.rlc_pdu.specs.declared.outcome.Landed.TheVariants.{Kept, Repeat, Outside, Clash}
use Rattle.rlc_um.specs.Joined.{Parts, parts_of, Joined, nothing_joined, with_number, with_numbers}
use Rattle.rlc_um.specs.Window.{top_of}
use Rattle.rlc_um.specs.Sender.{width_of}
use Rattle.rlc_um.specs.Receiver.{State, landed, after_landing, after_expiry, all_joined}
use Rattle.law_rlc.specs.UmPair.Run.{Call, Arrive, Expire, Tick, Up, World, Accepted, fresh, accepts, happens}
use Rattle.law_rlc.specs.UmPair.Run.{run_um_receiver}
use Rattle.law_rlc.specs.UmPair.Run.{found, numbers, joined_below, read_number}
use Rattle.law_rlc.specs.UmPair.Send.{Step, Flow, flow, at_first, carried, completed, joined, AreNumbered}
use Rattle.law_rlc.specs.UmPair.Loss.{IsSome, kept}
use Rattle.law_rlc.specs.UmPair.Air.{IsSent, AreSent, IsDelivered, IsReadTruly}
use Rattle.law_rlc.proofs.UmPair.Edge.{Keeps, comes-is, ends-is, happens-keeps, at-start, finished_all}
use Rattle.law_rlc.proofs.UmPair.Loss.{Lags, lags-number, lags-missing, grows-elements, some-more}
use Rattle.law_rlc.proofs.UmPair.Places.{found-else}
use Rattle.law_rlc.proofs.UmPair.Whole.{whole}

-- each accepted PDU is that of its number
abbrev pub Agrees : List (Option Parts) → ℕ → List Accepted → Type 0
Agrees made first log = (i : ℕ) (p : Parts) → found log (first + i) ≡ Some p → slice_index_or made i None ≡ Some p

grows-numbers : (ss : List (Option Parts)) (zs : List (List ℕ)) (j : Joined) → IsSome zs j.ready
    → IsSome zs (with_numbers ss j).ready
grows-numbers [] zs j r = r
grows-numbers (None ∷ ss) zs j r = grows-numbers ss zs (with_number None j) r
grows-numbers (Some p ∷ ss) zs j r =
    grows-numbers ss zs (with_number (Some p) j) (grows-elements p.elements zs j p.begins p.ends r)

pub shifted : (s : Option Parts) (ss : List (Option Parts)) (from : ℕ) (log : List Accepted)
    → Agrees (s ∷ ss) from log → Agrees ss (from + 1) log
shifted s ss from log a i p e = a (suc i) p (ap (found log) (omega arith) ∙ e)

lags-step : (o : Option Parts) (s : Option Parts) (ss : List (Option Parts)) (log : List Accepted) (from m : ℕ)
    (k j : Joined) → found log from ≡ o → Agrees (s ∷ ss) from log → Lags k j
    → Lags (with_number o k) (with_number s j)
lags-step None s ss log from m k j e a l = lags-missing s k j l
lags-step (Some p) s ss log from m k j e a l =
    let same : s ≡ Some p = a 0 p (ap (found log) (omega arith) ∙ e) in
    subst (λ (t : Option Parts). Lags (with_number (Some p) k) (with_number t j)) (sym same)
    (lags-number (Some p) k j l)

nothing-found : (o : Option Parts) (log : List Accepted) (from : ℕ) (k j : Joined) → found log from ≡ o
    → Agrees [] from log → Lags k j → Lags (with_number o k) j
nothing-found None log from k j e a l = record { ready = l.ready; part = inl refl }
nothing-found (Some p) log from k j e a l = let no : None ≡ Some p = a 0 p (ap (found log) (omega arith) ∙ e) in
    absurd cc

lags-numbers : (made : List (Option Parts)) (log : List Accepted) (from m : ℕ) (k j : Joined) → Agrees made from log
    → Lags k j → IsSome (with_numbers (numbers log from m) k).ready (with_numbers made j).ready
lags-numbers made log from zero k j a l = grows-numbers made k.ready j l.ready
lags-numbers [] log from (suc m) k j a l =
    lags-numbers [] log (from + 1) m (with_number (found log from) k) j
    (λ i p e. a (suc i) p (ap (found log) (omega arith) ∙ e))
    (nothing-found (found log from) log from k j refl a l)
lags-numbers (s ∷ ss) log from (suc m) k j a l =
    lags-numbers ss log (from + 1) m (with_number (found log from) k) (with_number s j) (shifted s ss from log a)
    (lags-step (found log from) s ss log from m k j refl a l)

-- the number that is read is the number that was sent
read-is : (width top n : ℕ) → (width ≡ 16) ⊎ (width ≡ 512) → 2 * width ≤ top → top ≤ n + width → n < top + width
    → top - width + ahead (n % (2 * width)) ((top - width) % (2 * width)) (2 * width) ≡ n
read-is width top n (inl e) a b c = go width e a b c
  where
    go : (w : ℕ) → w ≡ 16 → 2 * w ≤ top → top ≤ n + w → n < top + w
        → top - w + ahead (n % (2 * w)) ((top - w) % (2 * w)) (2 * w) ≡ n
    go w e a b c =
        subst (λ (v : ℕ). top - v + ahead (n % (2 * v)) ((top - v) % (2 * v)) (2 * v) ≡ n) (sym e) (omega arith)
read-is width top n (inr e) a b c = go width e a b c
  where
    go : (w : ℕ) → w ≡ 512 → 2 * w ≤ top → top ≤ n + w → n < top + w
        → top - w + ahead (n % (2 * w)) ((top - w) % (2 * w)) (2 * w) ≡ n
    go w e a b c =
        subst (λ (v : ℕ). top - v + ahead (n % (2 * v)) ((top - v) % (2 * v)) (2 * v) ≡ n) (sym e) (omega arith)

width-landing : (l : Landed) (x : ℕ) (p : Parts) (s : State) → (after_landing l x p s).window.width ≡ s.window.width
width-landing Kept x p s = refl
width-landing Repeat x p s = refl
width-landing Outside x p s = refl
width-landing Clash x p s = refl

width-expiry : (m : Option ℕ) (s : State) → (after_expiry m s).window.width ≡ s.window.width
width-expiry None s = refl
width-expiry (Some x) s = refl

agrees-accepts : (l : Landed) (made : List (Option Parts)) (first x k : ℕ) (p : Parts) (log : List Accepted)
    → x ≡ first + k → slice_index_or made k None ≡ Some p → Agrees made first log
    → Agrees made first (accepts l x p log)
agrees-accepts Repeat made first x k p log e c a = a
agrees-accepts Outside made first x k p log e c a = a
agrees-accepts Clash made first x k p log e c a = a
agrees-accepts Kept made first x k p log e c a = λ i q f. elim (cases_eq i k) [
  | inl same ↦
      let at : x ≡ first + i = omega arith in
      let t : (x == first + i) ≡ true = eq-eqb x (first + i) at in
      let is : found (record { number = x; parts = p } ∷ log) (first + i) ≡ Some p = rw t refl in
      subst (λ (j : ℕ). slice_index_or made j None ≡ Some q) (sym same) (c ∙ sym is ∙ f)
  | inr other ↦ a i q (sym (found-else (record { number = x; parts = p }) log (first + i) (λ g. other (omega arith)))
      ∙ f)
]

-- the PDU of a number, and its SN

abbrev sn_of : Option UmdPdu → ℕ
sn_of None = 0
sn_of (Some pdu) = pdu.sn

numbered-at : (bits from : ℕ) (made : List UmdPdu) (k : ℕ) (pdu : UmdPdu) → AreNumbered bits from made
    → slice_get made k ≡ Some pdu → pdu.sn ≡ (from + k) % 2 ^ bits
numbered-at bits from [] k pdu a e = absurd cc
numbered-at bits from (p ∷ ps) zero pdu a e = sym (ap sn_of e) ∙ a.0 ∙ ap (λ n. n % 2 ^ bits) (omega arith)
numbered-at bits from (p ∷ ps) (suc k) pdu a e = numbered-at bits (from + 1) ps k pdu a.1 e
    ∙ ap (λ n. n % 2 ^ bits) (omega arith)

pub carried-at : (made : List UmdPdu) (k : ℕ) (pdu : UmdPdu) → slice_get made k ≡ Some pdu
    → slice_index_or (carried made) k None ≡ Some (parts_of pdu)
carried-at [] k pdu e = absurd cc
carried-at (p ∷ ps) zero pdu e = ap (option_map parts_of) e
carried-at (p ∷ ps) (suc k) pdu e = carried-at ps k pdu e

-- the window of a length of numbers

size-of : (bits : ℕ) → IsUmBits bits → 2 ^ bits ≡ 2 * width_of bits
size-of bits (inl e) = subst (λ (b : ℕ). 2 ^ b ≡ 2 * width_of b) (sym e) refl
size-of bits (inr e) = subst (λ (b : ℕ). 2 ^ b ≡ 2 * width_of b) (sym e) refl

wide-of : (bits : ℕ) → IsUmBits bits → (width_of bits ≡ 16) ⊎ (width_of bits ≡ 512)
wide-of bits (inl e) = inl (ap width_of e)
wide-of bits (inr e) = inr (ap width_of e)

shifted-mod : (width n : ℕ) → (width ≡ 16) ⊎ (width ≡ 512) → n % (2 * width) ≡ (2 * width + n) % (2 * width)
shifted-mod width n (inl e) = subst (λ (v : ℕ). n % (2 * v) ≡ (2 * v + n) % (2 * v)) (sym e) (omega arith)
shifted-mod width n (inr e) = subst (λ (v : ℕ). n % (2 * v) ≡ (2 * v + n) % (2 * v)) (sym e) (omega arith)

pub record Meets (made : List UmdPdu) (width : ℕ) (w : World) : Type 0 where
  pub keeps : Keeps w
  pub width_is : w.state.window.width ≡ width
  pub agrees : Agrees (carried made) (2 * width) w.accepted

-- the sender's PDUs for numbers of a window
pub record Made (made : List UmdPdu) (width : ℕ) : Type 0 where
  pub wide : (width ≡ 16) ⊎ (width ≡ 512)
  pub sn_is : (k : ℕ) (pdu : UmdPdu) → slice_get made k ≡ Some pdu → pdu.sn ≡ k % (2 * width)

reads : (made : List UmdPdu) (width : ℕ) (w : World) (pdu : UmdPdu) → Made made width → Meets made width w
    → (s : IsSent made width w pdu) → read_number pdu w ≡ 2 * width + s.number
reads made width w pdu by m s =
    let r = m.keeps.rests in
    let t : top_of w.state.window ≡ w.top = r.top_is in
    let f = r.stands.first in
    let fm = r.stands.from_mark in
    let we = m.width_is in
    let lo = s.low in
    let be = s.below in
    let read : w.top - width + ahead ((2 * width + s.number) % (2 * width)) ((w.top - width) % (2 * width))
    (2 * width) ≡ 2 * width + s.number =
    read-is width w.top (2 * width + s.number) by.wide (omega arith) (omega arith) (omega arith) in
    ap (λ (v : ℕ). top_of w.state.window - v + ahead pdu.sn ((top_of w.state.window - v) % (2 * v)) (2 * v)) we
    ∙ ap (λ (h : ℕ). h - width + ahead pdu.sn ((h - width) % (2 * width)) (2 * width)) t
    ∙ ap (λ (n : ℕ). w.top - width + ahead n ((w.top - width) % (2 * width)) (2 * width))
    (by.sn_is s.number pdu s.is ∙ shifted-mod width s.number by.wide) ∙ read

meets-arrive : (made : List UmdPdu) (width : ℕ) (w : World) (pdu : UmdPdu) → Made made width → IsSent made width w pdu
    → Meets made width w → Meets made width (happens w (Arrive pdu))
meets-arrive made width w pdu by s m = record {
  keeps = happens-keeps w (Arrive pdu) m.keeps;
  width_is = ap (λ (v : World). v.state.window.width) (comes-is w pdu)
      ∙ width-landing (landed w.state (read_number pdu w)) (read_number pdu w) (parts_of pdu) w.state ∙ m.width_is;
  agrees = subst (λ (v : World). Agrees (carried made) (2 * width) v.accepted) (sym (comes-is w pdu))
      (agrees-accepts (landed w.state (read_number pdu w)) (carried made) (2 * width) (read_number pdu w) s.number
      (parts_of pdu) w.accepted (reads made width w pdu by m s) (carried-at made s.number pdu s.is) m.agrees);
}

meets-expire : (made : List UmdPdu) (width : ℕ) (w : World) → Meets made width w → Meets made width (happens w Expire)
meets-expire made width w m = record {
  keeps = happens-keeps w Expire m.keeps;
  width_is = ap (λ (v : World). v.state.window.width) (ends-is w) ∙ width-expiry w.state.mark w.state ∙ m.width_is;
  agrees = m.agrees;
}

pub meets-run : (made : List UmdPdu) (width : ℕ) (calls : List Call) (w : World) → Made made width
    → AreSent made width calls w → Meets made width w → Meets made width (run_um_receiver calls w)
meets-run made width [] w by s m = m
meets-run made width (Arrive pdu ∷ cs) w by s m =
    meets-run made width cs (happens w (Arrive pdu)) by s.1 (meets-arrive made width w pdu by s.0 m)
meets-run made width (Expire ∷ cs) w by s m =
    meets-run made width cs (happens w Expire) by s (meets-expire made width w m)
meets-run made width (Tick ∷ cs) w by s m =
    meets-run made width cs (happens w Tick) by s
    (record { keeps = happens-keeps w Tick m.keeps; width_is = m.width_is; agrees = m.agrees })
meets-run made width (Up ∷ cs) w by s m =
    meets-run made width cs (happens w Up) by s
    (record { keeps = happens-keeps w Up m.keeps; width_is = m.width_is; agrees = m.agrees })

pub made-by : (bits : ℕ) (steps : List Step) → IsUmBits bits → Made (flow steps (at_first bits)).made (width_of bits)
made-by bits steps h = record {
  wide = wide-of bits h;
  sn_is = λ k pdu e. numbered-at bits 0 (flow steps (at_first bits)).made k pdu (whole bits steps).numbered e
      ∙ ap (λ (j : ℕ). j % 2 ^ bits) (omega arith) ∙ ap (λ (m : ℕ). k % m) (size-of bits h);
}

pub some-numbers : (bits : ℕ) → IsUmBits bits → 0 < width_of bits
some-numbers bits h =
    ⊎_elim (λ (e : width_of bits ≡ 16). omega arith) (λ (e : width_of bits ≡ 512). omega arith) (wide-of bits h)

pub met : (bits reorder : ℕ) (steps : List Step) (calls : List Call) → IsUmBits bits
    → AreSent (flow steps (at_first bits)).made (width_of bits) calls (fresh (width_of bits) reorder)
    → Meets (flow steps (at_first bits)).made (width_of bits) (run_um_receiver calls (fresh (width_of bits) reorder))
met bits reorder steps calls h s =
    meets-run (flow steps (at_first bits)).made (width_of bits) calls (fresh (width_of bits) reorder)
    (made-by bits steps h) s (record {
      keeps = at-start (width_of bits) reorder (some-numbers bits h);
      width_is = refl;
      agrees = λ i p e. absurd cc;
    })

-- of what is some of the SDUs that the sender's PDUs join to
offered-some : (bits : ℕ) (steps : List Step) (xs : List (List ℕ))
    → IsSome xs (joined (flow steps (at_first bits)).made).ready → IsSome xs (flow steps (at_first bits)).offered
offered-some bits steps xs some =
    let f : Flow = flow steps (at_first bits) in
    subst (λ (l : List (List ℕ)). IsSome l f.offered) (sym some.chosen)
    (subst (λ (ys : List (List ℕ)). IsSome (kept some.choice (joined f.made).ready) ys) (whole bits steps).sdus
    (some-more some.choice (joined f.made).ready (completed (joined f.made).part f.sender.waiting.sdus)))

pub delivered : (bits reorder : ℕ) (steps : List Step) (calls : List Call) → IsUmBits bits
    → AreSent (flow steps (at_first bits)).made (width_of bits) calls (fresh (width_of bits) reorder)
    → IsDelivered (width_of bits) (flow steps (at_first bits)) (run_um_receiver calls (fresh (width_of bits) reorder))
delivered bits reorder steps calls h s =
    let f : Flow = flow steps (at_first bits) in
    let w : World = run_um_receiver calls (fresh (width_of bits) reorder) in
    let m : Meets f.made (width_of bits) w = met bits reorder steps calls h s in
    let up = m.keeps.rests.stands.sound.joined.ready in
    let end = finished_all (width_of bits) reorder (some-numbers bits h) calls in
    let some : (edge : ℕ) → IsSome (joined_below w.accepted (2 * width_of bits) edge).ready (joined f.made).ready
    = λ edge. lags-numbers (carried f.made) w.accepted (2 * width_of bits) (edge - 2 * width_of bits) nothing_joined
    nothing_joined m.agrees (record { ready = record { choice = []; chosen = refl }; part = inl refl }) in
    let same : w.gone ++ w.state.joined.ready
    ≡ (joined_below w.accepted (2 * width_of bits) w.state.window.edge).ready =
    up ∙ ap (λ (v : ℕ). (joined_below w.accepted (2 * v) w.state.window.edge).ready) m.width_is in
    let at_end : w.gone ++ all_joined w.state ≡ (joined_below w.accepted (2 * width_of bits) w.top).ready =
    end ∙ ap (λ (v : ℕ). (joined_below w.accepted (2 * v) w.top).ready) m.width_is in
    record {
      sdus = offered-some bits steps (w.gone ++ w.state.joined.ready)
          (subst (λ (xs : List (List ℕ)). IsSome xs (joined f.made).ready) (sym same) (some w.state.window.edge));
      at_end = offered-some bits steps (w.gone ++ all_joined w.state)
          (subst (λ (xs : List (List ℕ)). IsSome xs (joined f.made).ready) (sym at_end) (some w.top));
      accepted = m.agrees;
    }

pub read_truly : (bits reorder : ℕ) (steps : List Step) (calls : List Call) → IsUmBits bits
    → AreSent (flow steps (at_first bits)).made (width_of bits) calls (fresh (width_of bits) reorder)
    → (pdu : UmdPdu)
    → IsReadTruly (flow steps (at_first bits)).made (width_of bits)
    (run_um_receiver calls (fresh (width_of bits) reorder)) pdu
read_truly bits reorder steps calls h s pdu =
    reads (flow steps (at_first bits)).made (width_of bits) (run_um_receiver calls (fresh (width_of bits) reorder)) pdu
    (made-by bits steps h) (met bits reorder steps calls h s)
