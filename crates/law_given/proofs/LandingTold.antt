-- What a block confirms and brings is what the histories of its flows tell.
use Rattle.std.proofs.Common.{◌≡◌, ℕ, suc, ◌+◌, ◌≤◌, Bool, false, ◌&&◌, List, [], ◌∷◌, ◌++◌}
use Rattle.std.proofs.Common.{length, take, drop, refl, ap, sym, ◌∙◌, arith, le-ltb, length-append}
use Rattle.std.specs.Prelude.{not}
use Rattle.journal_account.specs.Confirmed.{is_confirmed_sdu, place_acked}
use Rattle.journal_account.specs.FlowEvents.{FlowEvent}
use Rattle.journal_account.specs.Stream.{sdu_sizes, place_of, sdu_end}
use Rattle.journal_account.specs.Arrived.{all_between}
use Rattle.law_rlc.specs.AmPair.Flow.{goes, am_rlc_outset}
use Rattle.law_rlc.specs.AmPair.Sdus.{handed_up, ready}
use Rattle.law_rlc.proofs.AmPair.Laws.{hands-up-the-front}
use Rattle.law_given.specs.Landing.{NewsAreAsTold, BringsAsTold}
use Rattle.law_given.proofs.SupplyConfirming.{numbers-ascend, numbers-are}

-- ---- what is newly confirmed

pub none-past : (es : List FlowEvent) (k : ℕ) → length (sdu_sizes es) ≤ k → is_confirmed_sdu es k ≡ false
none-past es k le =
    ap (λ (b : Bool). b && all_between (place_acked es) (place_of (sdu_sizes es) k) (sdu_end es k))
    (le-ltb k (length (sdu_sizes es)) le)

pub news_are_as_told : NewsAreAsTold
news_are_as_told es now stay =
    let many = length (sdu_sizes now) in
    let q : ℕ → Bool = λ k. is_confirmed_sdu now k && not (is_confirmed_sdu es k) in
    record {
      ascend = numbers-ascend q many 0 0 (omega arith);
      are_new = λ k. numbers-are q many 0 k (omega arith)
          (λ le. ap (λ (b : Bool). b && not (is_confirmed_sdu es k)) (none-past now k (omega (arith, le))));
      stay = stay;
      only_given = none-past now;
    }

-- ---- what comes in sequence

front-taken : (xs ys : List (List ℕ)) → take (length xs) (xs ++ ys) ≡ xs
front-taken [] ys = refl
front-taken (x ∷ xs) ys = ap (λ (l : List (List ℕ)). x ∷ l) (front-taken xs ys)

pub middle-is : (xs ys zs : List (List ℕ)) → drop (length xs) (take (length xs + length ys) ((xs ++ ys) ++ zs)) ≡ ys
middle-is [] ys zs =
    let on : 0 + length ys ≡ length ys = omega arith in
    ap (λ (n : ℕ). take n (ys ++ zs)) on ∙ front-taken ys zs
middle-is (x ∷ xs) ys zs =
    let on : suc (length xs) + length ys ≡ suc (length xs + length ys) = omega arith in
    ap (λ (n : ℕ). drop (suc (length xs)) (take n (x ∷ ((xs ++ ys) ++ zs)))) on ∙ middle-is xs ys zs

pub brings_as_told : BringsAsTold
brings_as_told sending receiving steps given es p h q came =
    let f = goes steps (am_rlc_outset sending receiving) in
    let front = hands-up-the-front sending receiving steps given in
    let whole : p.offered ≡ (handed_up f ++ ready f) ++ front.rest = q ∙ front.is in
    let long : length p.offered ≡ length ((handed_up f ++ ready f) ++ front.rest) =
    ap {B = ℕ} (λ (l : List (List ℕ)). length l) whole in
    let two = length-append (handed_up f ++ ready f) front.rest in
    let one = length-append (handed_up f) (ready f) in
    record {
      before = length (handed_up f);
      behind = length (handed_up f) + length (ready f);
      order = omega arith;
      given = omega (arith, long, two, one);
      came = came;
      sequenced_is = h.in_sequence;
      ready_is = sym (ap
          (λ (l : List (List ℕ)). drop (length (handed_up f)) (take (length (handed_up f) + length (ready f)) l)) whole
          ∙ middle-is (handed_up f) (ready f) front.rest);
    }
