-- UMD PDUs: in the grammar is read, and read is in the grammar.
use Rattle.std.proofs.Common.{◌≡◌, inl, inr, ℕ, suc, ◌+◌, ◌*◌, ◌/◌, ◌%◌, ◌<◌, ◌^◌, false, List, [], ◌∷◌, length, map}
use Rattle.std.proofs.Common.{Option, Some, None, Result, Ok, Err, refl, ap, ◌∙◌, arith, eqb}
use Rattle.std.specs.Prelude.{IfOk, MatchResult}
use Rattle.std.specs.List.{concat}
use Rattle.rlc_pdu.specs.declared.fault.RlcRefusal.{RlcRefusal}
use Rattle.rlc_pdu.specs.Units.{units}
use Rattle.rlc_pdu.specs.Pdus.{UmdPdu, IsUmBits}
use Rattle.rlc_pdu.specs.Grammar.{IsUmdPdu, umd_octets, umd_reserved, has_units, body_octets}
use Rattle.rlc_pdu.specs.Refusals.{Front, umd_front, short_front, long_front, body_refusal, data_refusal, umd_refusal}
use Rattle.rlc_pdu.specs.Reading.{unless, cut_all, elements_at, umd_at, umd_with, umd_behind}
use Rattle.rlc_pdu.proofs.Units.{AreOctets, follows_bit, bit_is}
use Rattle.rlc_pdu.proofs.Bodies.{body_again, body_found}

short_again : (padding sn fi f : ℕ) (lens : List ℕ) (es : List (List ℕ)) (body : List ℕ) → sn < 32 → fi < 4 → f < 2
    → ((total : ℕ) → elements_at total 1 (units false (eqb f 1) body) ≡ Ok es)
    → umd_at 5 ((fi * 64 + f * 32 + sn) ∷ body) ≡ Ok (record { sn = sn; fi = fi; elements = es })
unfolding short_front
short_again padding sn fi f lens es body hs hf hb read =
    let a : ℕ = fi * 64 + f * 32 + sn in
    let e1 : a % 32 ≡ sn = omega arith in
    let e2 : a / 64 ≡ fi = omega arith in
    let e3 : a / 32 % 2 ≡ f = omega arith in
    rw (e1, e2, e3)
    (ap
    (umd_with (record { sn = sn; poll = false; fi = fi; segment = None; more = eqb f 1; size = 1; rest = body }))
    (read (length (a ∷ body))))

long_again : (reserved sn fi f : ℕ) (es : List (List ℕ)) (body : List ℕ) → reserved < 8 → sn < 1024 → fi < 4 → f < 2
    → ((total : ℕ) → elements_at total 2 (units false (eqb f 1) body) ≡ Ok es)
    → umd_at 10 ((reserved * 32 + fi * 8 + f * 4 + sn / 256) ∷ (sn % 256) ∷ body)
    ≡ Ok (record { sn = sn; fi = fi; elements = es })
unfolding long_front
long_again reserved sn fi f es body hr hs hf hb read =
    let a : ℕ = reserved * 32 + fi * 8 + f * 4 + sn / 256 in
    let e1 : a % 4 * 256 + sn % 256 ≡ sn = omega arith in
    let e2 : a / 8 % 4 ≡ fi = omega arith in
    let e3 : a / 4 % 2 ≡ f = omega arith in
    rw (e1, e2, e3)
    (ap
    (umd_with (record { sn = sn; poll = false; fi = fi; segment = None; more = eqb f 1; size = 2; rest = body }))
    (read (length (a ∷ (sn % 256) ∷ body))))

pub umd_accepts : (bits : ℕ) (pdu : UmdPdu) (octets : List ℕ) → IsUmBits bits → IsUmdPdu bits pdu octets
    → umd_at bits octets ≡ Ok pdu
umd_accepts bits pdu octets (inl e) h =
    let lens = map length pdu.elements in
    ap (λ (os : List ℕ). umd_at bits os) h.spelled ∙ go e h.number
  where
    go : bits ≡ 5 → pdu.sn < 2 ^ bits
        → umd_at bits (umd_octets bits h.reserved h.padding pdu.sn pdu.fi (map length pdu.elements)
        (concat pdu.elements)) ≡ Ok pdu
    go e number =
        let few : pdu.sn < 2 ^ 5 = rw e at number in
        rw e (short_again h.padding pdu.sn pdu.fi (has_units (map length pdu.elements)) (map length pdu.elements)
        pdu.elements (body_octets h.padding (map length pdu.elements) (concat pdu.elements)) few h.framing
        (follows_bit _) (λ total. body_again total 1 h.padding pdu.elements h.four_bits h.lens))
umd_accepts bits pdu octets (inr e) h =
    ap (λ (os : List ℕ). umd_at bits os) h.spelled ∙ go e h.number h.few
  where
    go : bits ≡ 10 → pdu.sn < 2 ^ bits → h.reserved < umd_reserved bits
        → umd_at bits (umd_octets bits h.reserved h.padding pdu.sn pdu.fi (map length pdu.elements)
        (concat pdu.elements)) ≡ Ok pdu
    go e number few =
        let number' : pdu.sn < 2 ^ 10 = rw e at number in
        let few' : h.reserved < 8 = rw e at few in
        rw e (long_again h.reserved pdu.sn pdu.fi (has_units (map length pdu.elements)) pdu.elements
        (body_octets h.padding (map length pdu.elements) (concat pdu.elements)) few' number' h.framing
        (follows_bit _) (λ total. body_again total 2 h.padding pdu.elements h.four_bits h.lens))

-- ---- what was read, if it was, is in the grammar

abbrev IsSound : ℕ → List ℕ → Result UmdPdu RlcRefusal → Type 0
IsSound bits octets read = IfOk read (λ pdu. IsUmdPdu bits pdu octets)

short_body : (a : ℕ) (body : List ℕ) (f : Front) → a < 256 → AreOctets body
    → f ≡ record {
      sn = a % 32;
      poll = false;
      fi = a / 64;
      segment = None;
      more = eqb (a / 32 % 2) 1;
      size = 1;
      rest = body;
    }
    → (total : ℕ) (r : Result (List (List ℕ)) RlcRefusal)
    → elements_at total 1 (units false (eqb (a / 32 % 2) 1) body) ≡ r → IsSound 5 (a ∷ body) (umd_with f r)
short_body a body f la fits ef total (Err e) h = tt
short_body a body f la fits ef total (Ok es) h =
    let b = body_found total 1 (eqb (a / 32 % 2) 1) body es fits h in
    let e : has_units (map length es) ≡ a / 32 % 2 =
    bit_is (has_units (map length es)) (a / 32 % 2) (follows_bit _) (omega arith) b.more_is in
    let first : a / 64 * 64 + has_units (map length es) * 32 + a % 32 ≡ a = omega (arith, e) in
    rw ef (record {
      reserved = 0;
      padding = b.padding;
      few = omega arith;
      four_bits = b.four_bits;
      number = omega arith;
      framing = omega (arith, la);
      lens = b.lens;
      spelled = rw first (ap (λ (os : List ℕ). a ∷ os) b.spelled);
    })

short_found : (octets : List ℕ) → AreOctets octets → IsSound 5 octets (umd_at 5 octets)
unfolding short_front
short_found [] fits = tt
short_found (a ∷ body) fits =
    short_body a body (record {
      sn = a % 32;
      poll = false;
      fi = a / 64;
      segment = None;
      more = eqb (a / 32 % 2) 1;
      size = 1;
      rest = body;
    }) (fits 0) (λ i. fits (suc i)) refl (length (a ∷ body))
    (elements_at (length (a ∷ body)) 1 (units false (eqb (a / 32 % 2) 1) body)) refl

long_body : (a b : ℕ) (body : List ℕ) (f : Front) → a < 256 → b < 256 → AreOctets body
    → f ≡ record {
      sn = a % 4 * 256 + b;
      poll = false;
      fi = a / 8 % 4;
      segment = None;
      more = eqb (a / 4 % 2) 1;
      size = 2;
      rest = body;
    }
    → (total : ℕ) (r : Result (List (List ℕ)) RlcRefusal)
    → elements_at total 2 (units false (eqb (a / 4 % 2) 1) body) ≡ r → IsSound 10 (a ∷ b ∷ body) (umd_with f r)
long_body a b body f la lb fits ef total (Err e) h = tt
long_body a b body f la lb fits ef total (Ok es) h =
    let w = body_found total 2 (eqb (a / 4 % 2) 1) body es fits h in
    let e : has_units (map length es) ≡ a / 4 % 2 =
    bit_is (has_units (map length es)) (a / 4 % 2) (follows_bit _) (omega arith) w.more_is in
    let first : a / 32 * 32 + a / 8 % 4 * 8 + has_units (map length es) * 4 + (a % 4 * 256 + b) / 256 ≡ a =
    omega (arith, e, lb) in
    let second : (a % 4 * 256 + b) % 256 ≡ b = omega (arith, lb) in
    rw ef (record {
      reserved = a / 32;
      padding = w.padding;
      few = omega (arith, la);
      four_bits = w.four_bits;
      number = omega (arith, lb);
      framing = omega arith;
      lens = w.lens;
      spelled = rw (first, second) (ap (λ (os : List ℕ). a ∷ b ∷ os) w.spelled);
    })

long_found : (octets : List ℕ) → AreOctets octets → IsSound 10 octets (umd_at 10 octets)
unfolding long_front
long_found [] fits = tt
long_found (a ∷ []) fits = tt
long_found (a ∷ b ∷ body) fits =
    long_body a b body (record {
      sn = a % 4 * 256 + b;
      poll = false;
      fi = a / 8 % 4;
      segment = None;
      more = eqb (a / 4 % 2) 1;
      size = 2;
      rest = body;
    }) (fits 0) (fits 1) (λ i. fits (suc (suc i))) refl
    (length (a ∷ b ∷ body)) (elements_at (length (a ∷ b ∷ body)) 2 (units false (eqb (a / 4 % 2) 1) body)) refl

pub umd_found : (bits : ℕ) (octets : List ℕ) → IsUmBits bits → AreOctets octets
    → IsSound bits octets (umd_at bits octets)
umd_found bits octets (inl e) fits = rw e (short_found octets fits)
umd_found bits octets (inr e) fits = rw e (long_found octets fits)

-- ---- refused exactly by the first refusal

refused_with : (f : Front) (r : Option RlcRefusal) (xs : List (List ℕ))
    → MatchResult (umd_with f (unless r xs)) (λ x. r ≡ None) (λ e. r ≡ Some e)
refused_with f None xs = refl
refused_with f (Some e) xs = refl

agrees : (total : ℕ) (f : Option Front)
    → MatchResult (umd_behind total f) (λ x. data_refusal total f ≡ None) (λ e. data_refusal total f ≡ Some e)
agrees total None = refl
agrees total (Some f) =
    refused_with f (body_refusal total f.size (units false f.more f.rest)) (cut_all (units false f.more f.rest))

pub umd_agrees : (bits : ℕ) (octets : List ℕ)
    → MatchResult (umd_at bits octets) (λ x. umd_refusal bits octets ≡ None) (λ e. umd_refusal bits octets ≡ Some e)
umd_agrees bits octets = agrees (length octets) (umd_front bits octets)
