-- What a sender's PDUs join to, where none is lost.
use Rattle.std.proofs.Common.{◌≡◌, ◌<◌, ◌≤◌, ℕ, ◌+◌, ◌%◌, ◌^◌, Bool, true, false, not, ◌||◌, if◌then◌else◌, List, []}
use Rattle.std.proofs.Common.{◌∷◌, ◌++◌, length, take, drop, Option, Some, None, is_some, refl, ap, sym, subst, ◌∙◌}
use Rattle.std.proofs.Common.{append_assoc, length-append, arith, nat_lt, ◌==◌}
use Rattle.std.proofs.lemmas.List.{append-nil, take-append-drop, take_all}
use Rattle.std.proofs.lemmas.Bool.Decides.{nat_tests}
use Rattle.rlc_queue.specs.NewPdu.{room, may_follow, elements, rest, partial}
use Rattle.rlc_um.specs.Joined.{Parts, parts_of, Joined, nothing_joined, with_element, with_elements, with_number}
use Rattle.rlc_um.specs.Joined.{with_numbers}
use Rattle.rlc_queue.specs.NewPdu.{framing}
use Rattle.rlc_pdu.specs.Pdus.{UmdPdu}
use Rattle.rlc_um.specs.Sender.{Sender, Turn, Gives, IsIdle, IsHeld, IsSmall, turn, head_of, pieces, ends_partly}
use Rattle.rlc_um.specs.Sender.{pdu_of, after_turn, after_take}
use Rattle.law_rlc.specs.UmPair.Send.{Step, Offer, Take, Flow, carried, made_by, goes, flow, at_first, completed}
use Rattle.law_rlc.specs.UmPair.Send.{joined, AreNumbered, IsWhole}

-- what was joined, and what waits, are all SDUs
pub record Continues (j : Joined) (sdus : List (List ℕ)) (begun : Bool) (all : List (List ℕ)) : Type 0 where
  pub sdus_are : j.ready ++ completed j.part sdus ≡ all
  pub begun_is : is_some j.part ≡ begun
  pub some : begun ≡ true → 0 < length sdus

abbrev from : List (List ℕ) → Option (List ℕ) → Joined
from r o = record { ready = r; part = o }

-- an SDU that is whole in the PDU
whole-next : (x : List ℕ) (xs r : List (List ℕ)) (o : Option (List ℕ)) (es r2 : List (List ℕ)) (b2 : Bool)
    → ((r' : List (List ℕ)) → Continues (with_elements true (not b2) es (from r' None)) r2 b2 (r' ++ xs))
    → Continues (with_elements true (not b2) es (with_element (not (is_some o)) true x (from r o))) r2 b2
    (r ++ completed o (x ∷ xs))
whole-next x xs r None es r2 b2 ih =
    subst (λ (all : List (List ℕ)). Continues (with_elements true (not b2) es (from (r ++ x ∷ []) None)) r2 b2 all)
    (append_assoc r (x ∷ []) xs) (ih (r ++ x ∷ []))
whole-next x xs r (Some p) es r2 b2 ih =
    subst (λ (all : List (List ℕ)). Continues (with_elements true (not b2) es (from (r ++ (p ++ x) ∷ []) None)) r2 b2
    all) (append_assoc r ((p ++ x) ∷ []) xs) (ih (r ++ (p ++ x) ∷ []))

-- one of which a part fits
part-next : (x y z : List ℕ) (xs r : List (List ℕ)) (o : Option (List ℕ)) → y ++ z ≡ x
    → Continues (with_element (not (is_some o)) false y (from r o)) (z ∷ xs) true (r ++ completed o (x ∷ xs))
part-next x y z xs r None e = record {
  sdus_are = ap (λ (s : List (List ℕ)). s ++ (y ++ z) ∷ xs) (append-nil r) ∙ ap (λ (s : List ℕ). r ++ s ∷ xs) e;
  begun_is = refl;
  some = λ t. omega arith;
}
part-next x y z xs r (Some p) e = record {
  sdus_are = ap (λ (s : List (List ℕ)). s ++ (p ++ y ++ z) ∷ xs) (append-nil r)
      ∙ ap (λ (s : List ℕ). r ++ s ∷ xs) (append_assoc p y z ∙ ap (λ (s : List ℕ). p ++ s) e);
  begun_is = refl;
  some = λ t. omega arith;
}

last-next : (x : List ℕ) (xs r : List (List ℕ)) (o : Option (List ℕ))
    → Continues (with_element (not (is_some o)) true x (from r o)) xs false (r ++ completed o (x ∷ xs))
last-next x xs r None = record { sdus_are = append_assoc r (x ∷ []) xs; begun_is = refl; some = λ t. absurd cc }
last-next x xs r (Some p) = record {
  sdus_are = append_assoc r ((p ++ x) ∷ []) xs;
  begun_is = refl;
  some = λ t. absurd cc;
}

fits-whole : (space : ℕ) (x : List ℕ) → may_follow space x ≡ true → length x ≤ space
fits-whole space x e = grind (arith, nat_tests, e)

all-fits : (space : ℕ) (x : List ℕ) → nat_lt space (length x) ≡ false → length x ≤ space
all-fits space x e = grind (arith, nat_tests, e)

ended : (b2 : Bool) (es : List (List ℕ)) → (length es ≡ 0 → b2 ≡ false) → (not b2 || nat_lt 0 (length es)) ≡ true
ended b2 [] h = let e = h refl in rw e refl
ended true (x ∷ xs) h = grind (arith, nat_tests)
ended false (x ∷ xs) h = refl

whole-step : (space : ℕ) (x : List ℕ) (xs r : List (List ℕ)) (o : Option (List ℕ)) (es r2 : List (List ℕ)) (b2 : Bool)
    → (length es ≡ 0 → b2 ≡ false)
    → ((r' : List (List ℕ)) → Continues (with_elements true (not b2) es (from r' None)) r2 b2 (r' ++ xs))
    → (z f l : Bool) → may_follow space x ≡ f → nat_lt space (length x) ≡ l
    → Continues (with_elements (not (is_some o)) (not (if z then is_some o else if f then b2 else l))
    (if z then [] else take space x ∷ (if f then es else [])) (from r o))
    (if z then x ∷ xs else if f then r2 else (if l then drop space x ∷ xs else xs))
    (if z then is_some o else if f then b2 else l) (r ++ completed o (x ∷ xs))
whole-step space x xs r o es r2 b2 none ih true f l ef el =
    record { sdus_are = refl; begun_is = refl; some = λ t. omega arith }
whole-step space x xs r o es r2 b2 none ih false true l ef el =
    let whole : take space x ≡ x = take_all space x (fits-whole space x ef) in
    let e = ended b2 es none in
    subst
    (λ (g : Bool). Continues
    (with_elements true (not b2) es (with_element (not (is_some o)) g (take space x) (from r o))) r2 b2
    (r ++ completed o (x ∷ xs))) (sym e)
    (subst
    (λ (y : List ℕ). Continues (with_elements true (not b2) es (with_element (not (is_some o)) true y (from r o)))
    r2 b2 (r ++ completed o (x ∷ xs))) (sym whole)
    (whole-next x xs r o es r2 b2 ih))
whole-step space x xs r o es r2 b2 none ih false false true ef el =
    part-next x (take space x) (drop space x) xs r o (take-append-drop space x)
whole-step space x xs r o es r2 b2 none ih false false false ef el =
    let whole : take space x ≡ x = take_all space x (all-fits space x el) in
    rw whole (last-next x xs r o)

none-step : (b : Bool) (space : ℕ) (x : List ℕ) (es : List (List ℕ)) (b2 l : Bool) (z f : Bool)
    → length (if z then [] else take space x ∷ (if f then es else [])) ≡ 0
    → (if z then b else if f then b2 else l) ≡ b
none-step b space x es b2 l true f e = refl
none-step b space x es b2 l false f e = absurd (omega arith)

none-made : (h size c u : ℕ) (b : Bool) (sdus : List (List ℕ)) → length (elements h size c u sdus) ≡ 0
    → partial h size c u b sdus ≡ b
none-made h size c u b [] e = refl
none-made h size c u b (x ∷ xs) e =
    none-step b (room h size c u) x (elements h size (c + 1) (u + length x) xs)
    (partial h size (c + 1) (u + length x) false xs) (nat_lt (room h size c u) (length x)) (room h size c u == 0)
    (may_follow (room h size c u) x) e

pub whole-made : (h size c u : ℕ) (sdus r : List (List ℕ)) (o : Option (List ℕ)) → (is_some o ≡ true → 0 < length sdus)
    → Continues (with_elements (not (is_some o)) (not (partial h size c u (is_some o) sdus))
    (elements h size c u sdus) (from r o)) (rest h size c u sdus) (partial h size c u (is_some o) sdus)
    (r ++ completed o sdus)
whole-made h size c u [] r o some = record { sdus_are = refl; begun_is = refl; some = some }
whole-made h size c u (x ∷ xs) r o some =
    whole-step (room h size c u) x xs r o (elements h size (c + 1) (u + length x) xs)
    (rest h size (c + 1) (u + length x) xs) (partial h size (c + 1) (u + length x) false xs)
    (none-made h size (c + 1) (u + length x) false xs)
    (λ r'. whole-made h size (c + 1) (u + length x) xs r' None (λ t. absurd cc))
    (room h size c u == 0) (may_follow (room h size c u) x) (nat_lt (room h size c u) (length x)) refl refl

-- along a run

with-more : (ss : List (Option Parts)) (s : Option Parts) (j : Joined)
    → with_numbers (ss ++ s ∷ []) j ≡ with_number s (with_numbers ss j)
with-more [] s j = refl
with-more (t ∷ ss) s j = with-more ss s (with_number t j)

pub carried-more : (made : List UmdPdu) (pdu : UmdPdu)
    → carried (made ++ pdu ∷ []) ≡ carried made ++ Some (parts_of pdu) ∷ []
carried-more [] pdu = refl
carried-more (p ∷ ps) pdu = ap (λ (l : List (Option Parts)). Some (parts_of p) ∷ l) (carried-more ps pdu)

pub joined-more : (made : List UmdPdu) (pdu : UmdPdu)
    → joined (made ++ pdu ∷ []) ≡ with_number (Some (parts_of pdu)) (joined made)
joined-more made pdu = ap (λ (l : List (Option Parts)). with_numbers l nothing_joined) (carried-more made pdu)
    ∙ with-more (carried made) (Some (parts_of pdu)) nothing_joined

numbered-more : (bits from : ℕ) (made : List UmdPdu) (pdu : UmdPdu) → AreNumbered bits from made
    → pdu.sn ≡ (from + length made) % 2 ^ bits → AreNumbered bits from (made ++ pdu ∷ [])
numbered-more bits from [] pdu a e = (e ∙ ap (λ n. n % 2 ^ bits) (omega arith), tt)
numbered-more bits from (p ∷ ps) pdu a e =
    (a.0, numbered-more bits (from + 1) ps pdu a.1 (e ∙ ap (λ n. n % 2 ^ bits) (omega arith)))

-- FI says what the sender meant
framed : (begins ends : Bool) (elements : List (List ℕ)) (sn : ℕ)
    → parts_of (record { sn = sn; fi = framing begins ends; elements = elements })
    ≡ record { begins = begins; ends = ends; elements = elements }
framed true true elements sn = refl
framed true false elements sn = refl
framed false true elements sn = refl
framed false false elements sn = refl

pub record Holds (bits : ℕ) (f : Flow) : Type 0 where
  pub bits_are : f.sender.bits ≡ bits
  pub all : Continues (joined f.made) f.sender.waiting.sdus f.sender.waiting.begun f.offered
  pub number : f.sender.next ≡ length f.made
  pub numbered : AreNumbered bits 0 f.made

offered-more : (r : List (List ℕ)) (o : Option (List ℕ)) (sdus : List (List ℕ)) (x : List ℕ) (b : Bool)
    → is_some o ≡ b → (b ≡ true → 0 < length sdus)
    → r ++ completed o (sdus ++ x ∷ []) ≡ (r ++ completed o sdus) ++ x ∷ []
offered-more r None sdus x b e h = sym (append_assoc r sdus (x ∷ []))
offered-more r (Some p) [] x b e h = let g = h (sym e) in absurd (omega arith)
offered-more r (Some p) (y ∷ ys) x b e h = sym (append_assoc r ((p ++ y) ∷ ys) (x ∷ []))

nothing : (bits : ℕ) (f : Flow) → Holds bits f → Holds bits (record f { made = f.made ++ [] })
nothing bits f h = let e = append-nil f.made in rw e h

take-holds : (t : Turn) (bits : ℕ) (f : Flow) (size : ℕ) → Holds bits f
    → Holds bits (record f { sender = after_turn t f.sender size; made = f.made ++ made_by t f.sender size })
take-holds IsIdle bits f size h = nothing bits f h
take-holds IsHeld bits f size h = nothing bits f h
take-holds IsSmall bits f size h = nothing bits f h
take-holds Gives bits f size h =
    let s : Sender = f.sender in
    let j : Joined = joined f.made in
    let b : is_some j.part ≡ s.waiting.begun = h.all.begun_is in
    let made : Continues
    (with_elements (not (is_some j.part))
    (not (partial (head_of s.bits) size 0 0 (is_some j.part) s.waiting.sdus)) (pieces s size) j)
    (rest (head_of s.bits) size 0 0 s.waiting.sdus)
    (partial (head_of s.bits) size 0 0 (is_some j.part) s.waiting.sdus)
    (j.ready ++ completed j.part s.waiting.sdus)
    = whole-made (head_of s.bits) size 0 0 s.waiting.sdus j.ready j.part (λ t. h.all.some (sym b ∙ t)) in
    let told : Continues (with_elements (not s.waiting.begun) (not (ends_partly s size)) (pieces s size) j)
    (rest (head_of s.bits) size 0 0 s.waiting.sdus) (ends_partly s size)
    (j.ready ++ completed j.part s.waiting.sdus)
    = subst
    (λ (g : Bool). Continues
    (with_elements (not g) (not (partial (head_of s.bits) size 0 0 g s.waiting.sdus)) (pieces s size) j)
    (rest (head_of s.bits) size 0 0 s.waiting.sdus) (partial (head_of s.bits) size 0 0 g s.waiting.sdus)
    (j.ready ++ completed j.part s.waiting.sdus)) b made in
    let same : Continues (with_number (Some (parts_of (pdu_of s size))) j)
    (rest (head_of s.bits) size 0 0 s.waiting.sdus) (ends_partly s size)
    (j.ready ++ completed j.part s.waiting.sdus)
    = subst (λ (p : Parts). Continues (with_number (Some p) j) (rest (head_of s.bits) size 0 0 s.waiting.sdus)
    (ends_partly s size) (j.ready ++ completed j.part s.waiting.sdus))
    (sym (framed (not s.waiting.begun) (not (ends_partly s size)) (pieces s size) (s.next % 2 ^ s.bits))) told in
    record {
      bits_are = h.bits_are;
      all =
          subst (λ (k : Joined). Continues k (rest (head_of s.bits) size 0 0 s.waiting.sdus) (ends_partly s size)
          f.offered) (sym (joined-more f.made (pdu_of s size)))
          (subst (λ (a : List (List ℕ)). Continues (with_number (Some (parts_of (pdu_of s size))) j)
          (rest (head_of s.bits) size 0 0 s.waiting.sdus) (ends_partly s size) a) h.all.sdus_are same);
      number = let n = h.number in omega (arith, length-append f.made (pdu_of s size ∷ []));
      numbered = numbered-more bits 0 f.made (pdu_of s size) h.numbered
          (ap (λ k. s.next % 2 ^ k) h.bits_are ∙ ap (λ n. n % 2 ^ bits) (h.number ∙ omega arith));
    }

takes-is : (f : Flow) (size : ℕ) (held : Option ℕ)
    → goes f (Take size held) ≡ record f {
      sender = after_turn (turn f.sender size held) f.sender size;
      made = f.made ++ made_by (turn f.sender size held) f.sender size;
    }
unfolding after_take
takes-is f size held = refl

goes-holds : (bits : ℕ) (f : Flow) (s : Step) → Holds bits f → Holds bits (goes f s)
goes-holds bits f (Offer x) h = record {
  bits_are = h.bits_are;
  all = record {
    sdus_are = offered-more (joined f.made).ready (joined f.made).part f.sender.waiting.sdus x f.sender.waiting.begun
        h.all.begun_is h.all.some ∙ ap (λ (a : List (List ℕ)). a ++ x ∷ []) h.all.sdus_are;
    begun_is = h.all.begun_is;
    some = λ t. omega (arith, length-append f.sender.waiting.sdus (x ∷ []));
  };
  number = h.number;
  numbered = h.numbered;
}
goes-holds bits f (Take size held) h =
    subst (Holds bits) (sym (takes-is f size held)) (take-holds (turn f.sender size held) bits f size h)

flow-holds : (steps : List Step) (bits : ℕ) (f : Flow) → Holds bits f → Holds bits (flow steps f)
flow-holds [] bits f h = h
flow-holds (s ∷ ss) bits f h = flow-holds ss bits (goes f s) (goes-holds bits f s h)

pub whole : (bits : ℕ) (steps : List Step) → IsWhole bits (flow steps (at_first bits))
whole bits steps =
    let h : Holds bits (flow steps (at_first bits)) =
    flow-holds steps bits (at_first bits)
    (record {
      bits_are = refl;
      all = record { sdus_are = refl; begun_is = refl; some = λ t. absurd cc };
      number = refl;
      numbered = tt;
    }) in
    record { sdus = h.all.sdus_are; next = h.number; numbered = h.numbered }
