-- The SDUs that are ready, those that come at the end and those that are confirmed, by their places.
use Rattle.std.proofs.Common.{◌≡◌, ◌<◌, ◌≤◌, ℕ, suc, zero, ◌+◌, ◌-◌, Bool, true, false, ◌&&◌, if◌then◌else◌, List, []}
use Rattle.std.proofs.Common.{◌∷◌, ◌++◌, length, map, drop, slice_get, slice_index_or, Some, None, refl, ap, sym, subst}
use Rattle.std.proofs.Common.{◌∙◌, arith, nat_lt}
use Rattle.std.proofs.lemmas.Bool.Decides.{nat_tests}
use Rattle.std.proofs.lemmas.Bool.{false_from_ne_true}
use Rattle.std.proofs.lemmas.List.{length-append, length-map, length-drop, get_or-drop, drop-append-le, drop-map}
use Rattle.std.proofs.Math.Seq.{drop-append_seam}
use Rattle.rlc_am_tx.specs.Machine.{State as Sending}
use Rattle.rlc_am_rx.specs.Machine.{finished}
use Rattle.law_rlc.specs.AmSender.Confirmed.{unconfirmed, confirmations_after, times}
use Rattle.law_rlc.specs.AmSender.Octets.{nothing_sent, octets_after}
use Rattle.law_rlc.specs.AmSender.Run.{Offer, begun}
use Rattle.law_rlc.proofs.AmSender.Credits.{times-append}
use Rattle.law_rlc.specs.AmReceiver.Finish.{Place, all_come, octets_of, whole_of}
use Rattle.law_rlc.specs.AmPair.Flow.{Flow, Sends, sender, receiver}
use Rattle.law_rlc.specs.AmPair.Sdus.{offered, handed_up, ready}
use Rattle.law_words.specs.Lists.{AreFirstSdus}
use Rattle.law_rlc.specs.AmPair.Seen.{seen, in_sequence, GivesTheWhole}
use Rattle.law_rlc.specs.AmPair.Confirmed.{confirmations, Arrives}
use Rattle.law_rlc.specs.AmPair.Arrives.{arrives, HasReady, whole_from}
use Rattle.law_rlc.specs.AmPair.Steps.{IsOffered}
use Rattle.law_rlc.proofs.AmPair.Runs.{same-state}
use Rattle.law_rlc.proofs.AmPair.Sound.{IsSound}
use Rattle.law_rlc.proofs.AmPair.Sdus.{heard-state}
use Rattle.law_rlc.proofs.AmPair.Finished.{gives-the-whole}
use Rattle.law_rlc.proofs.AmPair.Covered.{IsThere, arrives as confirmed-there}
use Rattle.law_rlc.proofs.AmPair.Sequence.{goes-up-in-sequence}
use Rattle.law_rlc.proofs.AmPair.Later.{arrives-there, there-arrives, arrivals-same}
use Rattle.law_rlc.proofs.AmPair.Steps.{step-offers}

-- ---- what has arrived was offered

pub arrived-offered : (f : Flow) (place : ℕ) → IsSound f → arrives f place ≡ true → place < length (offered f)
arrived-offered f place h e =
    let t = (arrives-there (seen f) place e).ends in
    let first : AreFirstSdus (map octets_of (seen f)) (offered f) = (gives-the-whole f h).first in
    let all = ap (λ (xs : List (List ℕ)). length xs) first.is in
    let l = length-append (map octets_of (seen f)) first.rest in
    let m = length-map (seen f) octets_of in omega (arith, t, all, l, m)

-- ---- what is ready

get-left : (xs ys : List (List ℕ)) (k : ℕ) (x : List ℕ) → slice_get xs k ≡ Some x → slice_get (xs ++ ys) k ≡ Some x
get-left [] ys k x e = let no' : None ≡ Some x = e in cc
get-left (y ∷ xs) ys zero x e = e
get-left (y ∷ xs) ys (suc k) x e = get-left xs ys k x e

get-right : (xs ys : List (List ℕ)) (k : ℕ) → slice_get (xs ++ ys) (length xs + k) ≡ slice_get ys k
get-right [] ys k = let z : 0 + k ≡ k = omega arith in ap (λ (n : ℕ). slice_get ys n) z
get-right (x ∷ xs) ys k =
    let e : length (x ∷ xs) + k ≡ suc (length xs + k) = omega arith in
    ap (λ (n : ℕ). slice_get (x ∷ (xs ++ ys)) n) e ∙ get-right xs ys k

-- an SDU in sequence is the one at its place
in-sequence-at : (sdus : List (List Place)) (k : ℕ) (x : List ℕ) → slice_get (in_sequence sdus) k ≡ Some x
    → IsThere sdus k × (slice_get (map octets_of sdus) k ≡ Some x)
in-sequence-at [] k x e = let no' : None ≡ Some x = e in cc
in-sequence-at (s ∷ ss) k x e = by (all_come s) k refl (λ j. in-sequence-at ss j x) e
  where
    by : (b : Bool) (k : ℕ) → all_come s ≡ b
        → ((j : ℕ) → slice_get (in_sequence ss) j ≡ Some x → IsThere ss j × (slice_get (map octets_of ss) j ≡ Some x))
        → slice_get (if b then octets_of s ∷ in_sequence ss else []) k ≡ Some x
        → IsThere (s ∷ ss) k × (slice_get (map octets_of (s ∷ ss)) k ≡ Some x)
    by true zero a rest e = (record { ends = omega arith; octets = a }, e)
    by true (suc k) a rest e = let r = rest k e in let lt = r.0.ends in
        (record { ends = omega (arith, lt); octets = r.0.octets }, r.1)
    by false k a rest e = let no' : None ≡ Some x = e in cc

-- the first behind them isn't whole
sequence-stops : (sdus : List (List Place)) → IsThere sdus (length (in_sequence sdus)) → ⊥
sequence-stops [] t = let lt = t.ends in absurd (omega (arith, lt))
sequence-stops (s ∷ ss) t = by (all_come s) refl (sequence-stops ss) t
  where
    by : (b : Bool) → all_come s ≡ b → (IsThere ss (length (in_sequence ss)) → ⊥)
        → IsThere (s ∷ ss) (length (if b then octets_of s ∷ in_sequence ss else [])) → ⊥
    by true a rest t = let lt = t.ends in rest (record { ends = omega (arith, lt); octets = t.octets })
    by false a rest t = let no' : true ≡ false = sym t.octets ∙ a in cc

pub has-ready : (f : Flow) → IsSound f → HasReady f
has-ready f h = record {
  held = ap (λ s. s.out.ready) (heard-state f);
  places = λ k sdu e.
      let at : slice_get (in_sequence (seen f)) (length (handed_up f) + k) ≡ Some sdu =
      ap (λ (xs : List (List ℕ)). slice_get xs (length (handed_up f) + k)) (sym up)
      ∙ (get-right (handed_up f) (ready f) k ∙ e) in
      let r = in-sequence-at (seen f) (length (handed_up f) + k) sdu at in
      record {
        is = ap (λ (xs : List (List ℕ)). slice_get xs (length (handed_up f) + k)) first.is
            ∙ get-left (map octets_of (seen f)) first.rest (length (handed_up f) + k) sdu r.1;
        arrived = there-arrives (seen f) (length (handed_up f) + k) r.0;
      };
  stops = false_from_ne_true (arrives f (length (handed_up f) + length (ready f))) (λ e.
      let n : length (handed_up f) + length (ready f) ≡ length (in_sequence (seen f)) =
      sym (length-append (handed_up f) (ready f)) ∙ ap (λ (xs : List (List ℕ)). length xs) up in
      sequence-stops (seen f)
      (subst (λ (k : ℕ). IsThere (seen f) k) n
      (arrives-there (seen f) (length (handed_up f) + length (ready f)) e)));
}
  where
    up : handed_up f ++ ready f ≡ in_sequence (seen f)
    up = goes-up-in-sequence f h

    first : AreFirstSdus (map octets_of (seen f)) (offered f)
    first = (gives-the-whole f h).first

-- ---- as the life ends

sequence-few : (sdus : List (List Place)) → length (in_sequence sdus) ≤ length sdus
sequence-few [] = omega arith
sequence-few (s ∷ ss) = by (all_come s) (sequence-few ss)
  where
    by : (b : Bool) → length (in_sequence ss) ≤ length ss
        → length (if b then octets_of s ∷ in_sequence ss else []) ≤ length (s ∷ ss)
    by true le = omega (arith, le)
    by false le = omega arith

drop-whole : (n : ℕ) (sdus : List (List Place)) → n ≤ length (in_sequence sdus)
    → drop n (whole_of sdus) ≡ whole_of (drop n sdus)
drop-whole zero sdus le = refl
drop-whole (suc n) [] le = absurd (omega (arith, le))
drop-whole (suc n) (s ∷ ss) le = by (all_come s) le (drop-whole n ss)
  where
    by : (b : Bool) → suc n ≤ length (if b then octets_of s ∷ in_sequence ss else [])
        → (n ≤ length (in_sequence ss) → drop n (whole_of ss) ≡ whole_of (drop n ss))
        → drop (suc n) (if b then octets_of s ∷ whole_of ss else whole_of ss) ≡ whole_of (drop n ss)
    by true le rest = rest (omega (arith, le))
    by false le rest = absurd (omega (arith, le))

none-whole : (whole : ℕ → Bool) (n : ℕ) (xs : List (List ℕ)) → ((j : ℕ) → whole (n + j) ≡ false)
    → whole_from whole n xs ≡ []
none-whole whole n [] none = refl
none-whole whole n (x ∷ xs) none =
    let z : n ≡ n + 0 = omega arith in
    let here : whole n ≡ false = ap whole z ∙ none 0 in
    ap (λ (b : Bool). if b then x ∷ whole_from whole (n + 1) xs else whole_from whole (n + 1) xs) here
    ∙ none-whole whole (n + 1) xs (λ j. let e : n + 1 + j ≡ n + suc j = omega arith in ap whole e ∙ none (suc j))

abbrev is_whole : List (List Place) → ℕ → Bool
is_whole sdus k = nat_lt k (length sdus) && all_come (slice_index_or sdus k [])

whole-places : (whole : ℕ → Bool) (n : ℕ) (sdus : List (List Place)) (more : List (List ℕ))
    → ((j : ℕ) → whole (n + j) ≡ is_whole sdus j)
    → whole_of sdus ≡ whole_from whole n (map octets_of sdus ++ more)
whole-places whole n [] more same = sym (none-whole whole n more (λ j. same j ∙ none j))
  where
    none : (j : ℕ) → is_whole [] j ≡ false
    none j = grind (arith, nat_tests)
whole-places whole n (s ∷ ss) more same =
    let z : n ≡ n + 0 = omega arith in
    let here : whole n ≡ all_come s = ap whole z ∙ (same 0 ∙ now) in
    by (all_come s) (whole n) here
    (whole-places whole (n + 1) ss more (λ j. let e : n + 1 + j ≡ n + suc j = omega arith in
    ap whole e ∙ (same (suc j) ∙ later j)))
  where
    now : is_whole (s ∷ ss) 0 ≡ all_come s
    now = grind (arith, nat_tests)

    later : (j : ℕ) → is_whole (s ∷ ss) (suc j) ≡ is_whole ss j
    later j = grind (arith, nat_tests)

    by : (a b : Bool) → b ≡ a → whole_of ss ≡ whole_from whole (n + 1) (map octets_of ss ++ more)
        → (if a then octets_of s ∷ whole_of ss else whole_of ss)
        ≡ (if b then octets_of s ∷ whole_from whole (n + 1) (map octets_of ss ++ more)
        else whole_from whole (n + 1) (map octets_of ss ++ more))
    by true true e rest = ap (λ (xs : List (List ℕ)). octets_of s ∷ xs) rest
    by true false e rest = cc
    by false true e rest = cc
    by false false e rest = rest

pub finish-places : (f : Flow) → IsSound f
    → finished (receiver f).state ≡ whole_from (arrives f) (length (handed_up f))
    (drop (length (handed_up f)) (offered f))
finish-places f h =
    sym (drop-append_seam (handed_up f) (finished (receiver f).state))
    ∙ (ap (λ (xs : List (List ℕ)). drop n xs) w.whole
    ∙ (drop-whole n (seen f) few
    ∙ (whole-places (arrives f) n (drop n (seen f)) w.first.rest (λ j. sym (dropped j))
    ∙ ap (λ (xs : List (List ℕ)). whole_from (arrives f) n xs) rest)))
  where
    n : ℕ
    n = length (handed_up f)

    w : GivesTheWhole f
    w = gives-the-whole f h

    few : length (handed_up f) ≤ length (in_sequence (seen f))
    few = let l = length-append (handed_up f) (ready f) in
        let e = ap (λ (xs : List (List ℕ)). length xs) (goes-up-in-sequence f h) in omega (arith, l, e)

    dropped : (j : ℕ) → is_whole (drop n (seen f)) j ≡ arrives f (n + j)
    dropped j =
        let a = get_or-drop n (seen f) j [] in let l = length-drop n (seen f) in
        ap (λ (s : List Place). nat_lt j (length (drop n (seen f))) && all_come s) a
        ∙ ap (λ (b : Bool). b && all_come (slice_index_or (seen f) (n + j) []))
        (below (length (drop n (seen f))) (length (seen f)) l)
      where
        below : (a b : ℕ) → a ≡ b - n → nat_lt j a ≡ nat_lt (n + j) b
        below a b l = grind (arith, nat_tests)

    rest : map octets_of (drop n (seen f)) ++ w.first.rest ≡ drop n (offered f)
    rest =
        let m = length-map (seen f) octets_of in let s = sequence-few (seen f) in
        ap (λ (xs : List (List ℕ)). xs ++ w.first.rest) (sym (drop-map octets_of n (seen f)))
        ∙ (sym (drop-append-le n (map octets_of (seen f)) w.first.rest (omega (arith, m, s, few)))
        ∙ ap (λ (xs : List (List ℕ)). drop n xs) (sym w.first.is))

-- ---- what is confirmed

times-at : (ps : List ℕ) (k place : ℕ) → slice_get ps k ≡ Some place → 0 < times place ps
times-at [] k place e = let no' : None ≡ Some place = e in cc
times-at (p ∷ ps) zero place e = let same : Some p ≡ Some place = e in let is : p ≡ place = cc in
    grind (arith, nat_tests)
times-at (p ∷ ps) (suc k) place e = let ih = times-at ps k place e in omega (arith, ih)

pub confirms-arrived : (f : Flow) (k place : ℕ) → IsSound f → slice_get (sender f).state.accounts.news k ≡ Some place
    → (arrives f place ≡ true) × (place < length (offered f))
confirms-arrived f k place h e =
    let same : (confirmations f).state ≡ (sender f).state =
    same-state confirmations_after octets_after f.sent (begun f.sending unconfirmed) (begun f.sending nothing_sent)
    refl in
    let news : slice_get (confirmations f).state.accounts.news k ≡ Some place =
    ap (λ (s : Sending). slice_get s.accounts.news k) same ∙ e in
    let a = times-append place (confirmations f).past.given (confirmations f).state.accounts.news in
    let b = times-at (confirmations f).state.accounts.news k place news in
    let r : Arrives f place = confirmed-there f place h (omega (arith, a, b)) in
    let whole : arrives f place ≡ true = there-arrives (seen f) place (record { ends = r.ends; octets = r.octets }) in
    (whole, arrived-offered f place h whole)

-- ---- what is offered

pub is-offered : (f : Flow) → IsSound f → IsOffered f
is-offered f h = record {
  more = λ s. step-offers f s;
  fresh = λ sdu given. arrivals-same f (Sends (Offer sdu)) (length (offered f)) h given refl
      ∙ false_from_ne_true (arrives f (length (offered f))) (λ e. let lt =
      arrived-offered f (length (offered f)) h e in absurd (omega (arith, lt)));
}
