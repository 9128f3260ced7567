-- AMD PDUs: in the grammar is read, and read is in the grammar.
use Rattle.std.proofs.Common.{◌≡◌, ℕ, zero, suc, ◌+◌, ◌*◌, ◌/◌, ◌%◌, ◌<◌, ◌≤◌, ◌^◌, Bool, true, false, cond, List, []}
use Rattle.std.proofs.Common.{◌∷◌, length, map, Option, Some, None, Result, Ok, Err, refl, ap, ◌∙◌, arith, eqb}
use Rattle.std.specs.Prelude.{IfOk, MatchResult}
use Rattle.std.specs.List.{concat}
use Rattle.std.proofs.lemmas.Bool.{eqb-true, eqb-false}
use Rattle.l2_bits.specs.Bits.{digit}
use Rattle.rlc_pdu.specs.declared.fault.RlcRefusal.{RlcRefusal}
use Rattle.rlc_pdu.specs.declared.pdu.Segment.{Segment}
use Rattle.rlc_pdu.specs.Units.{units}
use Rattle.rlc_pdu.specs.Pdus.{AmdPdu, IsSegment}
use Rattle.rlc_pdu.specs.Grammar.{IsAmdPdu, amd_octets, has_units, body_octets}
use Rattle.rlc_pdu.specs.Refusals.{Front, whole_front, segment_front, amd_front, body_refusal, data_refusal}
use Rattle.rlc_pdu.specs.Reading.{unless, cut_all, elements_at, amd_at, amd_with, amd_behind}
use Rattle.rlc_pdu.proofs.Units.{AreOctets, follows_bit, bit_is}
use Rattle.rlc_pdu.proofs.Bodies.{body_again, body_found}

pub digit_bit : (b : Bool) → digit b < 2
digit_bit true = omega arith
digit_bit false = omega arith

pub digit_test : (b : Bool) → eqb (digit b) 1 ≡ b
digit_test true = refl
digit_test false = refl

pub digit_of : (n : ℕ) → n < 2 → digit (eqb n 1) ≡ n
digit_of zero h = refl
digit_of (suc zero) h = refl
digit_of (suc (suc n)) h = absurd (omega arith)

whole_again : (sn p fi f : ℕ) (es : List (List ℕ)) (body : List ℕ) → sn < 1024 → p < 2 → fi < 4 → f < 2
    → ((total : ℕ) → elements_at total 2 (units false (eqb f 1) body) ≡ Ok es)
    → amd_at ((128 + 0 * 64 + p * 32 + fi * 8 + f * 4 + sn / 256) ∷ (sn % 256) ∷ body)
    ≡ Ok (record { sn = sn; poll = eqb p 1; fi = fi; segment = None; elements = es })
unfolding amd_front
whole_again sn p fi f es body hs hp hf hb read =
    let a : ℕ = 128 + 0 * 64 + p * 32 + fi * 8 + f * 4 + sn / 256 in
    let e0 : a / 64 % 2 ≡ 0 = omega arith in
    let e1 : a % 4 * 256 + sn % 256 ≡ sn = omega arith in
    let e2 : a / 8 % 4 ≡ fi = omega arith in
    let e3 : a / 4 % 2 ≡ f = omega arith in
    let e4 : a / 32 % 2 ≡ p = omega arith in
    rw (e0, e1, e2, e3, e4)
    (ap
    (amd_with (record {
      sn = sn;
      poll = eqb p 1;
      fi = fi;
      segment = None;
      more = eqb f 1;
      size = 2;
      rest = body;
    })) (read (length (a ∷ (sn % 256) ∷ body))))

segment_again : (sn p fi f l so : ℕ) (es : List (List ℕ)) (body : List ℕ) → sn < 1024 → p < 2 → fi < 4 → f < 2 → l < 2
    → so < 2 ^ 15
    → ((total : ℕ) → elements_at total 4 (units false (eqb f 1) body) ≡ Ok es)
    → amd_at ((128 + 1 * 64 + p * 32 + fi * 8 + f * 4 + sn / 256) ∷ (sn % 256) ∷ (l * 128 + so / 256) ∷ (so % 256)
    ∷ body)
    ≡ Ok (record {
      sn = sn;
      poll = eqb p 1;
      fi = fi;
      segment = Some (record { last = eqb l 1; so = so });
      elements = es;
    })
unfolding amd_front segment_front
segment_again sn p fi f l so es body hs hp hf hb hl ho read =
    let a : ℕ = 128 + 1 * 64 + p * 32 + fi * 8 + f * 4 + sn / 256 in
    let c : ℕ = l * 128 + so / 256 in
    let e0 : a / 64 % 2 ≡ 1 = omega arith in
    let e1 : a % 4 * 256 + sn % 256 ≡ sn = omega arith in
    let e2 : a / 8 % 4 ≡ fi = omega arith in
    let e3 : a / 4 % 2 ≡ f = omega arith in
    let e4 : a / 32 % 2 ≡ p = omega arith in
    let e5 : c / 128 ≡ l = omega arith in
    let e6 : c % 128 * 256 + so % 256 ≡ so = omega arith in
    rw (e0, e1, e2, e3, e4, e5, e6)
    (ap
    (amd_with (record {
      sn = sn;
      poll = eqb p 1;
      fi = fi;
      segment = Some (record { last = eqb l 1; so = so });
      more = eqb f 1;
      size = 4;
      rest = body;
    })) (read (length (a ∷ (sn % 256) ∷ c ∷ (so % 256) ∷ body))))

spelled_again : (padding sn : ℕ) (poll : Bool) (fi : ℕ) (segment : Option Segment) (es : List (List ℕ)) → sn < 1024
    → fi < 4 → IsSegment segment
    → ((total start : ℕ)
    → elements_at total start
    (units false (eqb (has_units (map length es)) 1) (body_octets padding (map length es) (concat es))) ≡ Ok es)
    → amd_at (amd_octets padding sn poll fi segment (map length es) (concat es))
    ≡ Ok (record { sn = sn; poll = poll; fi = fi; segment = segment; elements = es })
spelled_again padding sn poll fi None es hs hf seg read =
    whole_again sn (digit poll) fi (has_units (map length es)) es (body_octets padding (map length es) (concat es)) hs
    (digit_bit poll) hf (follows_bit _) (λ total. read total 2)
    ∙ rw (digit_test poll) refl
spelled_again padding sn poll fi (Some s) es hs hf seg read =
    segment_again sn (digit poll) fi (has_units (map length es)) (digit s.last) s.so es
    (body_octets padding (map length es) (concat es)) hs (digit_bit poll) hf (follows_bit _) (digit_bit s.last)
    seg (λ total. read total 4)
    ∙ rw (digit_test poll, digit_test s.last) refl

pub amd_accepts : (pdu : AmdPdu) (octets : List ℕ) → IsAmdPdu pdu octets → amd_at octets ≡ Ok pdu
amd_accepts pdu octets h =
    ap amd_at h.spelled
    ∙ spelled_again h.padding pdu.sn pdu.poll pdu.fi pdu.segment pdu.elements h.number h.framing h.segment
    (λ total start. body_again total start h.padding pdu.elements h.four_bits h.lens)

-- ---- what was read, if it was, is in the grammar

abbrev pub IsSoundAmd : List ℕ → Result AmdPdu RlcRefusal → Type 0
IsSoundAmd octets read = IfOk read (λ pdu. IsAmdPdu pdu octets)

whole_body : (a b : ℕ) (body : List ℕ) (f : Front) → 128 ≤ a → a < 256 → b < 256 → AreOctets body
    → eqb (a / 64 % 2) 1 ≡ false → f ≡ whole_front a b body
    → (total : ℕ) (r : Result (List (List ℕ)) RlcRefusal)
    → elements_at total 2 (units false (eqb (a / 4 % 2) 1) body) ≡ r → IsSoundAmd (a ∷ b ∷ body) (amd_with f r)
whole_body a b body f high la lb fits rf ef total (Err e) h = tt
whole_body a b body f high la lb fits rf ef total (Ok es) h =
    let w = body_found total 2 (eqb (a / 4 % 2) 1) body es fits h in
    let no : a / 64 % 2 ≡ 1 → ⊥ = eqb-false (a / 64 % 2) 1 rf in
    let e : has_units (map length es) ≡ a / 4 % 2 =
    bit_is (has_units (map length es)) (a / 4 % 2) (follows_bit _) (omega arith) w.more_is in
    let d : digit (eqb (a / 32 % 2) 1) ≡ a / 32 % 2 = digit_of (a / 32 % 2) (omega arith) in
    let first : 128 + 0 * 64 + digit (eqb (a / 32 % 2) 1) * 32 + a / 8 % 4 * 8 + has_units (map length es) * 4
    + (a % 4 * 256 + b) / 256 ≡ a = omega (arith, e, d, lb, la, high, no) in
    let second : (a % 4 * 256 + b) % 256 ≡ b = omega (arith, lb) in
    rw ef (record {
      padding = w.padding;
      four_bits = w.four_bits;
      number = omega (arith, lb);
      framing = omega arith;
      segment = tt;
      lens = w.lens;
      spelled = rw (first, second) (ap (λ (os : List ℕ). a ∷ b ∷ os) w.spelled);
    })

segment_body : (a b c d : ℕ) (body : List ℕ) (f : Front) → 128 ≤ a → a < 256 → b < 256 → c < 256 → d < 256
    → AreOctets body → eqb (a / 64 % 2) 1 ≡ true
    → f ≡ record (whole_front a b body) {
      segment = Some (record { last = eqb (c / 128) 1; so = c % 128 * 256 + d });
      size = 4;
    }
    → (total : ℕ) (r : Result (List (List ℕ)) RlcRefusal)
    → elements_at total 4 (units false (eqb (a / 4 % 2) 1) body) ≡ r
    → IsSoundAmd (a ∷ b ∷ c ∷ d ∷ body) (amd_with f r)
segment_body a b c d body f high la lb lc ld fits rf ef total (Err e) h = tt
segment_body a b c d body f high la lb lc ld fits rf ef total (Ok es) h =
    let w = body_found total 4 (eqb (a / 4 % 2) 1) body es fits h in
    let is : a / 64 % 2 ≡ 1 = eqb-true (a / 64 % 2) 1 rf in
    let e : has_units (map length es) ≡ a / 4 % 2 =
    bit_is (has_units (map length es)) (a / 4 % 2) (follows_bit _) (omega arith) w.more_is in
    let p : digit (eqb (a / 32 % 2) 1) ≡ a / 32 % 2 = digit_of (a / 32 % 2) (omega arith) in
    let q : digit (eqb (c / 128) 1) ≡ c / 128 = digit_of (c / 128) (omega (arith, lc)) in
    let first : 128 + 1 * 64 + digit (eqb (a / 32 % 2) 1) * 32 + a / 8 % 4 * 8 + has_units (map length es) * 4
    + (a % 4 * 256 + b) / 256 ≡ a = omega (arith, e, p, lb, la, high, is) in
    let second : (a % 4 * 256 + b) % 256 ≡ b = omega (arith, lb) in
    let third : digit (eqb (c / 128) 1) * 128 + (c % 128 * 256 + d) / 256 ≡ c = omega (arith, q, ld) in
    let fourth : (c % 128 * 256 + d) % 256 ≡ d = omega (arith, ld) in
    rw ef (record {
      padding = w.padding;
      four_bits = w.four_bits;
      number = omega (arith, lb);
      framing = omega arith;
      segment = omega (arith, ld);
      lens = w.lens;
      spelled = rw (first, second, third, fourth) (ap (λ (os : List ℕ). a ∷ b ∷ c ∷ d ∷ os) w.spelled);
    })

segment_found : (a b : ℕ) (rest : List ℕ) → 128 ≤ a → a < 256 → b < 256 → AreOctets rest → eqb (a / 64 % 2) 1 ≡ true
    → (total : ℕ) → IsSoundAmd (a ∷ b ∷ rest) (amd_behind total (segment_front a b rest))
unfolding segment_front
segment_found a b [] high la lb fits rf total = tt
segment_found a b (c ∷ []) high la lb fits rf total = tt
segment_found a b (c ∷ d ∷ body) high la lb fits rf total =
    segment_body a b c d body
    (record (whole_front a b body) {
      segment = Some (record { last = eqb (c / 128) 1; so = c % 128 * 256 + d });
      size = 4;
    }) high la lb (fits 0) (fits 1) (λ i. fits (suc (suc i))) rf refl total _ refl

front_found : (a b : ℕ) (rest : List ℕ) (t : Bool) → 128 ≤ a → a < 256 → b < 256 → AreOctets rest
    → eqb (a / 64 % 2) 1 ≡ t → (total : ℕ)
    → IsSoundAmd (a ∷ b ∷ rest) (amd_behind total (cond t (segment_front a b rest) (Some (whole_front a b rest))))
front_found a b rest true high la lb fits rf total = segment_found a b rest high la lb fits rf total
front_found a b rest false high la lb fits rf total =
    whole_body a b rest (whole_front a b rest) high la lb fits rf refl total _ refl

pub amd_found : (a : ℕ) (octets : List ℕ) → 128 ≤ a → AreOctets (a ∷ octets)
    → IsSoundAmd (a ∷ octets) (amd_at (a ∷ octets))
unfolding amd_front
amd_found a [] high fits = tt
amd_found a (b ∷ rest) high fits =
    front_found a b rest (eqb (a / 64 % 2) 1) high (fits 0) (fits 1) (λ i. fits (suc (suc i))) refl
    (length (a ∷ b ∷ rest))

-- ---- refused exactly by the first refusal

refused_with : (f : Front) (r : Option RlcRefusal) (xs : List (List ℕ))
    → MatchResult (amd_with f (unless r xs)) (λ x. r ≡ None) (λ e. r ≡ Some e)
refused_with f None xs = refl
refused_with f (Some e) xs = refl

agrees : (total : ℕ) (f : Option Front)
    → MatchResult (amd_behind total f) (λ x. data_refusal total f ≡ None) (λ e. data_refusal total f ≡ Some e)
agrees total None = refl
agrees total (Some f) =
    refused_with f (body_refusal total f.size (units false f.more f.rest)) (cut_all (units false f.more f.rest))
