-- What the steps of a life and its end have to show, so that a pair goes on as two ways.
use Rattle.std.proofs.Common.{◌≡◌, ℕ, List, [], ◌++◌, append-nil, append_assoc, refl, ap, sym, ◌∙◌}
use Rattle.eps_sec.specs.declared.Keys.{Keys}
use Rattle.law_deliver.specs.AmFlow.Pair.{Pair, Step, IsGiven}
use Rattle.law_deliver.specs.AmDelivery.Lives.{LifeStep, InLife, Restarts, lives_on, MayHappen, far_ups_in, near_ups_in}
use Rattle.law_deliver.specs.AmDelivery.Lives.{near_news_in, far_news_in}
use Rattle.law_words.specs.Arrivals.{AccountEntry}
use Rattle.law_deliver.specs.AmDelivery.Arrival.{down_in, up_in}
use Rattle.law_deliver.proofs.AmDelivery.Joined.{Way, JoinedPair, pdcp}
use Rattle.law_deliver.proofs.AmDelivery.Accounts.{told_of, TellsOn, tells_then}
use Rattle.law_deliver.proofs.AmDelivery.Lasting.{Lasts, IsOfLife, given_by, raised_by, confirmed_by, near_in, far_in}

-- a way goes on: what went up and what was taken for the first time grow by these, and so much is told of it
pub record GoesOn (w v : Way) (news ups : List (List ℕ)) (told : List AccountEntry) : Type 0 where
  pub bits : v.bits ≡ w.bits
  pub protection : v.protection ≡ w.protection
  pub first : v.first ≡ w.first
  pub sdus_are : (pdcp v).sdus ≡ (pdcp w).sdus ++ news
  pub ups_are : (pdcp v).up ≡ (pdcp w).up ++ ups
  pub tells : TellsOn told (pdcp w) (told_of w) (pdcp v) (told_of v)

pub goes_not : (w : Way) → GoesOn w w [] [] []
goes_not w = record {
  bits = refl;
  protection = refl;
  first = refl;
  sdus_are = sym (append-nil (pdcp w).sdus);
  ups_are = sym (append-nil (pdcp w).up);
  tells = λ a k. k;
}

pub goes_then : {xs ys : List AccountEntry} (u v w : Way) (news more ups last : List (List ℕ)) → GoesOn u v news ups xs
    → GoesOn v w more last ys
    → GoesOn u w (news ++ more) (ups ++ last) (xs ++ ys)
goes_then {xs} {ys} u v w news more ups last h k = record {
  bits = k.bits ∙ h.bits;
  protection = k.protection ∙ h.protection;
  first = k.first ∙ h.first;
  sdus_are = k.sdus_are ∙ ap (λ l. l ++ more) h.sdus_are ∙ append_assoc (pdcp u).sdus news more;
  ups_are = k.ups_are ∙ ap (λ l. l ++ last) h.ups_are ∙ append_assoc (pdcp u).up ups last;
  tells = tells_then xs ys (pdcp u) (pdcp v) (pdcp w) (told_of u) (told_of v) (told_of w) h.tells k.tells;
}

pub record BothGoOn (bits : ℕ) (down up : Way) (p : Pair) (x : LifeStep) : Type 0 where
  pub down_after : Way
  pub up_after : Way
  pub joined : JoinedPair bits down_after up_after (lives_on p x)
  pub down_goes : GoesOn down down_after (near_news_in p x) (far_ups_in p x) (down_in p x)
  pub up_goes : GoesOn up up_after (far_news_in p x) (near_ups_in p x) (up_in p x)
  pub down_lasts : IsOfLife x
      → Lasts down down_after (near_in given_by p x) (far_in raised_by p x) (near_in confirmed_by p x)
  pub up_lasts : IsOfLife x
      → Lasts up up_after (far_in given_by p x) (near_in raised_by p x) (far_in confirmed_by p x)

abbrev pub StepsGoOn : Type 0
StepsGoOn = (bits : ℕ) (down up : Way) (p : Pair) (s : Step) → JoinedPair bits down up p → IsGiven p s → MayHappen p s
    → BothGoOn bits down up p (InLife s)

abbrev pub RestartsGoOn : Type 0
RestartsGoOn = (bits : ℕ) (down up : Way) (p : Pair) (keys : Keys) → JoinedPair bits down up p
    → BothGoOn bits down up p (Restarts keys)
