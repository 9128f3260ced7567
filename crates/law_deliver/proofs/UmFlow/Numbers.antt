-- Lists, and runs one behind the other.
use Rattle.std.proofs.Common.{◌≡◌, ◌<◌, inl, inr, ℕ, zero, suc, ◌+◌, Bool, true, false, if◌then◌else◌, List, [], ◌∷◌}
use Rattle.std.proofs.Common.{◌++◌, length, drop, Some, None, slice_get, refl, arith, nat_lt, ◌==◌}
use Rattle.std.proofs.lemmas.List.{length-drop}
use Rattle.std.proofs.lemmas.Bool.Decides.{nat_tests}
use Rattle.rlc_pdu.specs.Pdus.{UmdPdu}
use Rattle.rlc_queue.specs.NewPdu.{room, may_follow, rest}
use Rattle.rlc_queue.specs.Waiting.{HaveOctets, behind}
use Rattle.law_words.specs.Lists.{IsSubsequence}
use Rattle.law_rlc.specs.UmPair.Run.{Call, Arrive, Expire, Tick, Up, World, happens, run_um_receiver}
use Rattle.law_rlc.specs.UmPair.Send.{Step, Flow, goes, flow}
use Rattle.law_rlc.specs.UmPair.Loss.{kept}
use Rattle.law_rlc.specs.UmPair.Air.{IsSent, AreSent}

-- ---- what stands at a place

pub at_left : {A : Type 0} (xs ys : List A) (k : ℕ) (x : A) → slice_get xs k ≡ Some x → slice_get (xs ++ ys) k ≡ Some x
at_left [] ys k x e = let no : None ≡ Some x = e in absurd cc
at_left (y ∷ xs) ys zero x e = e
at_left (y ∷ xs) ys (suc k) x e = at_left xs ys k x e

pub at_last : {A : Type 0} (xs : List A) (x : A) → slice_get (xs ++ x ∷ []) (length xs) ≡ Some x
at_last [] x = refl
at_last (y ∷ xs) x = at_last xs x

pub is_below : {A : Type 0} (xs : List A) (k : ℕ) (x : A) → slice_get xs k ≡ Some x → k < length xs
is_below [] k x e = let no : None ≡ Some x = e in absurd cc
is_below (y ∷ xs) zero x e = omega arith
is_below (y ∷ xs) (suc k) x e = let ih = is_below xs k x e in omega arith

-- ---- runs

pub flow_more : (xs ys : List Step) (f : Flow) → flow (xs ++ ys) f ≡ flow ys (flow xs f)
flow_more [] ys f = refl
flow_more (x ∷ xs) ys f = flow_more xs ys (goes f x)

pub run_more : (cs ds : List Call) (w : World) → run_um_receiver (cs ++ ds) w
    ≡ run_um_receiver ds (run_um_receiver cs w)
run_more [] ds w = refl
run_more (c ∷ cs) ds w = run_more cs ds (happens w c)

one_grows : (made more : List UmdPdu) (width : ℕ) (w : World) (pdu : UmdPdu) → IsSent made width w pdu
    → IsSent (made ++ more) width w pdu
one_grows made more width w pdu s =
    record { number = s.number; is = at_left made more s.number pdu s.is; low = s.low; below = s.below }

-- more PDUs are made
pub sent_grows : (made more : List UmdPdu) (width : ℕ) (cs : List Call) (w : World) → AreSent made width cs w
    → AreSent (made ++ more) width cs w
sent_grows made more width [] w h = tt
sent_grows made more width (Arrive pdu ∷ cs) w h =
    (one_grows made more width w pdu h.0, sent_grows made more width cs (happens w (Arrive pdu)) h.1)
sent_grows made more width (Expire ∷ cs) w h = sent_grows made more width cs (happens w Expire) h
sent_grows made more width (Tick ∷ cs) w h = sent_grows made more width cs (happens w Tick) h
sent_grows made more width (Up ∷ cs) w h = sent_grows made more width cs (happens w Up) h

-- more calls come
pub sent_more : (made : List UmdPdu) (width : ℕ) (cs ds : List Call) (w : World) → AreSent made width cs w
    → AreSent made width ds (run_um_receiver cs w) → AreSent made width (cs ++ ds) w
sent_more made width [] ds w h k = k
sent_more made width (Arrive pdu ∷ cs) ds w h k = (h.0, sent_more made width cs ds (happens w (Arrive pdu)) h.1 k)
sent_more made width (Expire ∷ cs) ds w h k = sent_more made width cs ds (happens w Expire) h k
sent_more made width (Tick ∷ cs) ds w h k = sent_more made width cs ds (happens w Tick) h k
sent_more made width (Up ∷ cs) ds w h k = sent_more made width cs ds (happens w Up) h k

-- ---- SDUs that wait have octets

pub octets_push : (sdus : List (List ℕ)) (x : List ℕ) → 0 < length x → HaveOctets sdus → HaveOctets (sdus ++ x ∷ [])
octets_push [] x some h = (some, tt)
octets_push (y ∷ ys) x some h = (h.0, octets_push ys x some h.1)

behind_by : (b : Bool) (n : ℕ) (x : List ℕ) (xs : List (List ℕ)) → nat_lt n (length x) ≡ b → HaveOctets xs
    → HaveOctets (if b then drop n x ∷ xs else xs)
behind_by true n x xs e h =
    let l = length-drop n x in
    let more : n < length x = grind (arith, nat_tests, e) in
    (omega arith, h)
behind_by false n x xs e h = h

rest_by : (z f : Bool) (n : ℕ) (x : List ℕ) (xs rs : List (List ℕ)) → HaveOctets (x ∷ xs) → HaveOctets rs
    → HaveOctets (if z then x ∷ xs else if f then rs else behind n (x ∷ xs))
rest_by true f n x xs rs h k = h
rest_by false true n x xs rs h k = k
rest_by false false n x xs rs h k = behind_by (nat_lt n (length x)) n x xs refl h.1

pub octets_left : (head size count used : ℕ) (sdus : List (List ℕ)) → HaveOctets sdus
    → HaveOctets (rest head size count used sdus)
octets_left head size count used [] h = tt
octets_left head size count used (x ∷ xs) h =
    let n = room head size count used in
    rest_by (n == 0) (may_follow n x) n x xs (rest head size (count + 1) (used + length x) xs) h
    (octets_left head size (count + 1) (used + length x) xs h.1)

-- ---- items left out

one_less : (zs : List (List ℕ)) (x : List ℕ) (xs : List (List ℕ)) → IsSubsequence zs xs → IsSubsequence zs (x ∷ xs)
one_less [] x xs h = tt
one_less (z ∷ zs) x xs h = inr h

pub kept_some : (choice : List Bool) (xs : List (List ℕ)) → IsSubsequence (kept choice xs) xs
kept_some [] xs = tt
kept_some (b ∷ bs) [] = tt
kept_some (true ∷ bs) (x ∷ xs) = inl (refl, kept_some bs xs)
kept_some (false ∷ bs) (x ∷ xs) = one_less (kept bs xs) x xs (kept_some bs xs)

pub front_some : (ys zs xs : List (List ℕ)) → IsSubsequence (ys ++ zs) xs → IsSubsequence ys xs
front_some [] zs xs h = tt
front_some (y ∷ ys) zs [] h = h
front_some (y ∷ ys) zs (x ∷ xs) (inl h) = inl (h.0, front_some ys zs xs h.1)
front_some (y ∷ ys) zs (x ∷ xs) (inr h) = inr (front_some (y ∷ ys) zs xs h)
