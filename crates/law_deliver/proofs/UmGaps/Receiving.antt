-- A receiver that hears tags beside one that hears octets, and the gaps in what arrives and in what it hands up.
use Rattle.std.proofs.Common.{◌≡◌, ◌<◌, ◌≤◌, ℕ, suc, ◌+◌, ◌*◌, nat_le, max, Bool, false, ◌||◌, List, [], ◌∷◌, ◌++◌, map}
use Rattle.std.proofs.Common.{take, drop, length, Some, slice_get, append-nil, append_assoc, refl, ap, sym, subst, ◌∙◌}
use Rattle.std.proofs.Common.{arith}
use Rattle.std.proofs.lemmas.Bool.Decides.{nat_tests}
use Rattle.std.proofs.lemmas.List.{map-append}
use Rattle.rlc_pdu.specs.Pdus.{UmdPdu}
use Rattle.rlc_um.specs.Receiver.{State as Receiver, arrival, expired}
use Rattle.rlc_um.specs.Sender.{width_of}
use Rattle.law_deliver.specs.UmFlow.Runs.{ups}
use Rattle.law_deliver.proofs.UmFlow.Numbers.{run_more, sent_more}
use Rattle.law_rlc.specs.UmPair.Air.{IsSent, AreSent}
use Rattle.law_rlc.specs.UmPair.Run.{Call, Arrive, Expire, Tick, Up, World, fresh, happens, run_um_receiver}
use Rattle.law_rlc.specs.UmPair.Run.{read_number}
use Rattle.um_losses.specs.Flow.{Flow, none_ready, all_gone}
use Rattle.um_losses.specs.Gaps.{numbered}
use Rattle.um_losses.specs.Laws.{AreAlike}
use Rattle.um_losses.specs.Tags.{last_tag}
use Rattle.um_losses.proofs.Alike.{hear_alike}
use Rattle.law_deliver.proofs.UmGaps.Gaps.{tags_next, tags_long, all_counted_so, next_then, long_then, both_false}
use Rattle.law_deliver.proofs.UmGaps.Worlds.{Same, same_arrives, same_expires, same_ticks, same_ups}

-- ---- all that is ready goes up

ups_sent : (tm : List UmdPdu) (width : ℕ) (sdus : List (List ℕ)) (w : World) → AreSent tm width (ups sdus) w
ups_sent tm width [] w = tt
ups_sent tm width (x ∷ xs) w = ups_sent tm width xs (happens w Up)

record Raised (sdus : List (List ℕ)) (t : World) (u : World) : Type 0 where
  state_is : u.state ≡ none_ready t.state
  gone_is : u.gone ≡ t.gone ++ sdus
  top_is : u.top ≡ t.top

raised : (sdus : List (List ℕ)) (t : World) → t.state.joined.ready ≡ sdus → Raised sdus t (run_um_receiver (ups sdus) t)
raised [] t e =
    record {
      state_is =
          ap (λ (xs : List (List ℕ)). record t.state { joined = record t.state.joined { ready = xs } }) e;
      gone_is = sym (append-nil t.gone);
      top_is = refl;
    }
raised (x ∷ xs) t e =
    let rest = raised xs (happens t Up) (ap (drop 1) e) in
    record {
      state_is = rest.state_is;
      gone_is = rest.gone_is ∙ ap (λ (ys : List (List ℕ)). (t.gone ++ take 1 ys) ++ xs) e
          ∙ append_assoc t.gone (x ∷ []) xs;
      top_is = rest.top_is;
    }

ups_same : (xs ys : List (List ℕ)) → length xs ≡ length ys → ups xs ≡ ups ys
ups_same [] [] e = refl
ups_same [] (y ∷ ys) e = let no : 0 ≡ suc (length ys) = e in absurd cc
ups_same (x ∷ xs) [] e = let no : suc (length xs) ≡ 0 = e in absurd cc
ups_same (x ∷ xs) (y ∷ ys) e = let less : length xs ≡ length ys = cc in
    ap (λ (cs : List Call). Up ∷ cs) (ups_same xs ys less)

rise_alike : (sdus : List (List ℕ)) (w t : World) → Same w t
    → Same (run_um_receiver (ups sdus) w) (run_um_receiver (ups sdus) t)
rise_alike [] w t h = h
rise_alike (x ∷ xs) w t h = rise_alike xs (happens w Up) (happens t Up) (same_ups w t h)

rise_top : (sdus : List (List ℕ)) (w : World) → (run_um_receiver (ups sdus) w).top ≡ w.top
rise_top [] w = refl
rise_top (x ∷ xs) w = rise_top xs (happens w Up)

-- ---- both receivers

module _ (bits counts : ℕ) where
  abbrev pub tagged_world : List Call → World
  tagged_world calls = run_um_receiver calls (fresh (width_of bits) 0)

  abbrev pub tags_gone : List Call → List ℕ
  tags_gone calls = map last_tag (run_um_receiver calls (fresh (width_of bits) 0)).gone

  pub record Heard (w : World) (tm : List UmdPdu) (calls : List Call) (f : Flow) : Type 0 where
    pub sent' : AreSent tm (width_of bits) calls (fresh (width_of bits) 0)
    pub same : Same w (run_um_receiver calls (fresh (width_of bits) 0))
    pub state_is : (run_um_receiver calls (fresh (width_of bits) 0)).state ≡ f.receiver
    pub bits_are : f.bits ≡ bits
    pub width_is : f.gaps.width ≡ width_of bits
    pub counts_are : f.gaps.counts ≡ counts
    pub top_is : 2 * width_of bits + f.gaps.top ≡ w.top
    pub next_is : f.gaps.next ≡ tags_next 0 (tags_gone calls)
    pub long_is : f.gaps.long ≡ false → tags_long counts 0 (tags_gone calls) ≡ false

  -- what is ready goes up at both, and its gaps are counted
  pub all_heard : (w : World) (tm : List UmdPdu) (calls : List Call) (f : Flow) (ready : List (List ℕ))
      → w.state.joined.ready ≡ ready → Heard w tm calls f
      → Heard (run_um_receiver (ups ready) w) tm (calls ++ ups f.receiver.joined.ready) (all_gone f)
  all_heard w tm calls f ready r h =
      let t : World = run_um_receiver calls (fresh (width_of bits) 0) in
      let sdus = f.receiver.joined.ready in
      let there : t.state.joined.ready ≡ sdus = ap (λ (s : Receiver). s.joined.ready) h.state_is in
      let u : World = run_um_receiver (ups sdus) t in
      let up = raised sdus t there in
      let more : run_um_receiver (calls ++ ups sdus) (fresh (width_of bits) 0) ≡ u =
      run_more calls (ups sdus) (fresh (width_of bits) 0) in
      let many : length ready ≡ length sdus = ap length (sym r) ∙ (hear_alike w.state t.state h.same.outline_is).ready
      ∙ ap length there in
      let counted = all_counted_so sdus f.gaps in
      let tags : tags_gone (calls ++ ups sdus) ≡ tags_gone calls ++ map last_tag sdus =
      ap (λ (x : World). map last_tag x.gone) more ∙ ap (map last_tag) up.gone_is ∙ map-append last_tag t.gone sdus in
      record {
        sent' = sent_more tm (width_of bits) calls (ups sdus) (fresh (width_of bits) 0) h.sent'
            (ups_sent tm (width_of bits) sdus t);
        same =
            subst (Same (run_um_receiver (ups ready) w)) (sym more)
            (subst (λ (cs : List Call). Same (run_um_receiver cs w) u) (sym (ups_same ready sdus many))
            (rise_alike sdus w t h.same));
        state_is = ap (λ (x : World). x.state) more ∙ up.state_is ∙ ap none_ready h.state_is;
        bits_are = h.bits_are;
        width_is = counted.width_is ∙ h.width_is;
        counts_are = counted.counts_are ∙ h.counts_are;
        top_is = ap (λ (n : ℕ). 2 * width_of bits + n) counted.top_is ∙ h.top_is ∙ sym (rise_top ready w);
        next_is = counted.next_is ∙ ap (λ (n : ℕ). tags_next n (map last_tag sdus)) h.next_is
            ∙ sym (next_then 0 (tags_gone calls) (map last_tag sdus)) ∙ ap (tags_next 0) (sym tags);
        long_is = λ e.
            let parts = both_false f.gaps.long (tags_long f.gaps.counts f.gaps.next (map last_tag sdus))
            (sym counted.long_is ∙ e) in
            let here : tags_long counts (tags_next 0 (tags_gone calls)) (map last_tag sdus) ≡ false =
            ap (λ (n : ℕ). tags_long counts n (map last_tag sdus)) (sym h.next_is)
            ∙ ap (λ (n : ℕ). tags_long n f.gaps.next (map last_tag sdus)) (sym h.counts_are) ∙ parts.1 in
            ap (tags_long counts 0) tags ∙ long_then counts 0 (tags_gone calls) (map last_tag sdus)
            ∙ ap (λ (b : Bool). b || tags_long counts (tags_next 0 (tags_gone calls)) (map last_tag sdus))
            (h.long_is parts.0) ∙ here;
      }

  -- the timer expires at both
  pub expiry_heard : (w : World) (tm : List UmdPdu) (calls : List Call) (f : Flow) → Heard w tm calls f
      → Heard (happens w Expire) tm (calls ++ Expire ∷ []) (record f { receiver = expired f.receiver })
  expiry_heard w tm calls f h =
      let t : World = run_um_receiver calls (fresh (width_of bits) 0) in
      let more : run_um_receiver (calls ++ Expire ∷ []) (fresh (width_of bits) 0) ≡ happens t Expire =
      run_more calls (Expire ∷ []) (fresh (width_of bits) 0) in
      let tags : tags_gone (calls ++ Expire ∷ []) ≡ tags_gone calls = ap (λ (x : World). map last_tag x.gone) more in
      record {
        sent' = sent_more tm (width_of bits) calls (Expire ∷ []) (fresh (width_of bits) 0) h.sent' tt;
        same = subst (Same (happens w Expire)) (sym more) (same_expires w t h.same);
        state_is = ap (λ (x : World). x.state) more ∙ ap expired h.state_is;
        bits_are = h.bits_are;
        width_is = h.width_is;
        counts_are = h.counts_are;
        top_is = h.top_is;
        next_is = h.next_is ∙ ap (tags_next 0) (sym tags);
        long_is = λ e. ap (tags_long counts 0) tags ∙ h.long_is e;
      }

  -- a TTI is counted at one
  pub tick_heard : (w : World) (tm : List UmdPdu) (calls : List Call) (f : Flow) → Heard w tm calls f
      → Heard (happens w Tick) tm calls f
  tick_heard w tm calls f h = record {
    sent' = h.sent';
    same = same_ticks w (run_um_receiver calls (fresh (width_of bits) 0)) h.same;
    state_is = h.state_is;
    bits_are = h.bits_are;
    width_is = h.width_is;
    counts_are = h.counts_are;
    top_is = h.top_is;
    next_is = h.next_is;
    long_is = h.long_is;
  }

  -- ---- a PDU of a number arrives at both

  pub near_by : (w : World) (tm : List UmdPdu) (calls : List Call) (f : Flow) (n : ℕ) → Heard w tm calls f
      → (numbered n f.gaps).long ≡ false → (f.gaps.long ≡ false) × (2 * width_of bits + n < w.top + width_of bits)
  near_by w tm calls f n h e =
      let parts = both_false f.gaps.long (nat_le (f.gaps.top + f.gaps.width) n) e in
      let top = h.top_is in
      let width : f.gaps.width ≡ width_of bits = h.width_is in
      let near : n < f.gaps.top + f.gaps.width = below (f.gaps.top + f.gaps.width) n parts.1 in
      (parts.0, omega (arith, near, top, width))
    where
      below : (m k : ℕ) → nat_le m k ≡ false → k < m
      below m k e = grind (arith, nat_tests, e)

  higher : (low top n : ℕ) → low + max top (n + 1) ≡ max (low + top) (low + n + 1)
  higher low top n = grind (arith, nat_tests)

  pub arrival_heard : (w : World) (tm : List UmdPdu) (calls : List Call) (f : Flow) (n : ℕ) (p q : UmdPdu)
      → Heard w tm calls f → AreAlike p q → slice_get tm n ≡ Some q
      → w.top ≤ 2 * width_of bits + n + width_of bits → 2 * width_of bits + n < w.top + width_of bits
      → read_number p w ≡ 2 * width_of bits + n
      → Heard (happens w (Arrive p)) tm (calls ++ Arrive q ∷ [])
      (record f { receiver = arrival q f.receiver; gaps = numbered n f.gaps })
  arrival_heard w tm calls f n p q h a there low near read =
      let t : World = run_um_receiver calls (fresh (width_of bits) 0) in
      let more : run_um_receiver (calls ++ Arrive q ∷ []) (fresh (width_of bits) 0) ≡ happens t (Arrive q) =
      run_more calls (Arrive q ∷ []) (fresh (width_of bits) 0) in
      let tags : tags_gone (calls ++ Arrive q ∷ []) ≡ tags_gone calls = ap (λ (x : World). map last_tag x.gone) more in
      let s : IsSent tm (width_of bits) t q =
      record {
        number = n;
        is = there;
        low = subst (λ (m : ℕ). m ≤ 2 * width_of bits + n + width_of bits) h.same.top_is low;
        below = subst (λ (m : ℕ). 2 * width_of bits + n < m + width_of bits) h.same.top_is near;
      } in
      record {
        sent' = sent_more tm (width_of bits) calls (Arrive q ∷ []) (fresh (width_of bits) 0) h.sent' (s, tt);
        same = subst (Same (happens w (Arrive p))) (sym more) (same_arrives w t p q h.same a);
        state_is = ap (λ (x : World). x.state) more ∙ ap (arrival q) h.state_is;
        bits_are = h.bits_are;
        width_is = h.width_is;
        counts_are = h.counts_are;
        top_is =
            higher (2 * width_of bits) f.gaps.top n ∙ ap (λ (m : ℕ). max m (2 * width_of bits + n + 1)) h.top_is
            ∙ ap (λ (m : ℕ). max w.top (m + 1)) (sym read);
        next_is = h.next_is ∙ ap (tags_next 0) (sym tags);
        long_is = λ e. ap (tags_long counts 0) tags
            ∙ h.long_is (both_false f.gaps.long (nat_le (f.gaps.top + f.gaps.width) n) e).0;
      }
