-- Each acknowledged data bearer of a journal hands up exactly as many SDUs as have come before the first that hasn't,
-- and the first of those submitted.
use Rattle.std.proofs.Common.{◌≡◌, ℕ, ◌-◌, List, [], ◌∷◌, length, take, arith, ap, sym, subst, ◌∙◌}
use Rattle.std.proofs.lemmas.List.{length-take-le}
use Rattle.air_text.specs.Groups.{Group, history}
use Rattle.bearer_types.specs.declared.config.BearerConfig.{BearerConfig}
use Rattle.bearer_types.specs.declared.event.Event.{Event}
use Rattle.l2_types.specs.declared.channel.Kind.TheVariants.{Am}
use Rattle.l2_types.specs.declared.side.Side.{Side}
use Rattle.promises.specs.Taken.{leaves, taken_of}
use Rattle.promises.specs.Records.{events_of}
use Rattle.law_words.specs.Arrivals.{AccountEntry, Account, no_account, account}
use Rattle.bearer_types.specs.Sides.{other as other_end}
use Rattle.law_deliver.specs.AmChannel.Arrival.{told_from}
use Rattle.law_deliver.specs.AmChannel.Delivery.{taken_at, submitted_at, ups_at}
use Rattle.law_deliver.specs.AmFlow.Air.{outset}
use Rattle.law_deliver.proofs.AmChannel.Delivery.{channels_tell_what_is_taken, channels_deliver_what_came}
use Rattle.law_deliver.proofs.AmChannel.Delivery.{channels_deliver_what_came_undiscarded, channels_take_in_half}
use Rattle.law_deliver.specs.AmDelivery.Arrival.{IsWhatCame}
use Rattle.promises.specs.Events.{discards_on}
use Rattle.promises.specs.Arrival.{taken as taken_told, account_of, AllHandUpWhatCame, HandUpWhatCame}
use Rattle.promises.specs.HalfWindow.{AreInHalf, AllInHalf, TakesStayInHalf}
use Rattle.law_run.specs.Order.{KeepsOrder}
use Rattle.law_run.proofs.Delivering.{IsDelivering, alike, is_delivering, tells, went_up_is, was_submitted_is}
use Rattle.law_run.proofs.Delivering.{happened_from}

-- how many they are
many_of : (first : ℕ) (a : Account) (news ups : List (List ℕ)) (x : IsWhatCame first a news ups)
    → length ups ≡ x.next - first
many_of first a news ups x =
    let within = x.taken in
    ap length x.ups_are ∙ length-take-le (x.next - first) news (omega (arith, within))

-- and which they are, of those that were submitted
pub taken_is : (l : ℕ) (c : BearerConfig) (past : List Group) (d : IsDelivering l c past) → c.kind ≡ Am → (from : Side)
    → taken_at l from d.lived.by.steps (outset d.nb d.ue) ≡ taken_told c l from past
taken_is l c past d kind from =
    let steps = d.lived.by.steps in
    let told = channels_tell_what_is_taken l c d.keys d.nb d.ue from steps (alike l c past d kind) d.lived.by.living in
    told.taken_are
    ∙ (ap (λ (es : List Event). taken_of l c.first es (submitted_at l from steps (outset d.nb d.ue)))
    (tells l c past d from)
    ∙ ap (taken_of l c.first (events_of from (history past))) (was_submitted_is l c past d from))

came : (past : List Group) → KeepsOrder past → AllHandUpWhatCame past
came past order from l c e kind own =
    let d = is_delivering l past c order e own in
    let steps = d.lived.by.steps in
    let living = d.lived.by.living in
    let a = outset d.nb d.ue in
    let both = alike l c past d kind in
    let taken = taken_at l from steps a in
    let all = submitted_at l from steps a in
    let ups = ups_at l (other_end from) steps a in
    let said = account_of c l from past in
    let from_told : (news : List (List ℕ)) → IsWhatCame c.first (told_from c l from steps a) news ups
    → IsWhatCame c.first said news ups =
    λ news x. subst (λ (hs : List AccountEntry). IsWhatCame c.first (account hs no_account) news ups)
    (happened_from l c past d c.pdcp_bits from) x in
    let told = channels_tell_what_is_taken l c d.keys d.nb d.ue from steps both living in
    let is_told : taken ≡ taken_told c l from past = taken_is l c past d kind from in
    let x : IsWhatCame c.first said taken ups =
    from_told taken (channels_deliver_what_came l c d.keys d.nb d.ue from steps both living) in
    let up = went_up_is l c past d from in
    let few = told.were_submitted in
    let events = ap (λ (es : List Event). length (leaves l c.first es)) (tells l c past d from) in
    let sdus = ap length (was_submitted_is l c past d from) in
    record {
      were_submitted = omega (arith, few, events, sdus);
      next = x.next;
      least = x.least;
      many = ap length (sym up) ∙ many_of c.first said taken ups x;
      which = sym up ∙ (x.ups_are ∙ ap (take (x.next - c.first)) is_told);
      none_left_out = λ none.
          let y : IsWhatCame c.first said all ups =
          from_told all (channels_deliver_what_came_undiscarded l c d.keys d.nb d.ue from steps both living
          (ap (discards_on l) (tells l c past d from) ∙ none)) in
          sym up ∙ (y.ups_are
          ∙ (ap (λ (n : ℕ). take n all) (sym (many_of c.first said all ups y) ∙ many_of c.first said taken ups x)
          ∙ ap (take (x.next - c.first)) (was_submitted_is l c past d from)));
    }

pub hand_up_what_came : (past : List Group) → KeepsOrder past → HandUpWhatCame past
hand_up_what_came [] order = tt
hand_up_what_came (g ∷ past) (right, order) = (came (g ∷ past) (right, order), hand_up_what_came past order)

-- ---- how far the COUNTs that are taken run ahead

in_half : (past : List Group) → KeepsOrder past → AllInHalf past
in_half past order from l c e kind own =
    let d = is_delivering l past c order e own in
    subst (λ (hs : List AccountEntry). AreInHalf c.pdcp_bits c.first no_account hs)
    (happened_from l c past d c.pdcp_bits from)
    (channels_take_in_half l c d.keys d.nb d.ue (alike l c past d kind) from d.lived.by.steps d.lived.by.living)

pub takes_stay_in_half : (past : List Group) → KeepsOrder past → TakesStayInHalf past
takes_stay_in_half [] order = tt
takes_stay_in_half (g ∷ past) (right, order) = (in_half (g ∷ past) (right, order), takes_stay_in_half past order)
