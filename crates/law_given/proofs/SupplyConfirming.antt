-- A STATUS arrives: what RLC confirms by it, on both sides.
use Rattle.std.proofs.Common.{◌≡◌, ◌≢◌, ◌<◌, ◌≤◌, ℕ, zero, suc, ◌+◌, ◌==◌, Bool, true, false, ◌||◌, ◌&&◌, if◌then◌else◌}
use Rattle.std.proofs.Common.{List, [], ◌∷◌, ◌++◌, length, Option, Some, None, option_map, slice_get, append_assoc}
use Rattle.std.proofs.Common.{append-nil, Result, Ok, refl, ap, sym, ◌∙◌, arith, subst, inl, inr}
use Rattle.std.specs.Prelude.{option_to_list, not}
use Rattle.std.specs.List.{list_any}
use Rattle.std.proofs.lemmas.Bool.{cases_eq, eq-eqb, ne_eqb}
use Rattle.l2_num.specs.Ascending.{IsAscending}
use Rattle.pdcp_tx.specs.State.{State as Sending, confirmed}
use Rattle.rlc_pdu.specs.declared.fault.RlcRefusal.{RlcRefusal}
use Rattle.rlc_pdu.specs.Pdus.{AcknowledgedPdu, StatusPdu, Status}
use Rattle.rlc_pdu.specs.Reading.{am_at}
use Rattle.rlc_am_tx.specs.declared.answers.Heard.{Heard}
use Rattle.rlc_am_tx.specs.declared.answers.Heard.TheVariants as heard_as
use Rattle.rlc_am_tx.specs.Machine.{after_status, heard}
use Rattle.bearer_pdcp.specs.Ends.{Ends}
use Rattle.bearer.specs.Acknowledged.State.{State, Work}
use Rattle.bearer.specs.Acknowledged.Hearing.{confirms as confirms_places, status_work, arrived_left, after_arrival}
use Rattle.bearer.specs.declared.flow.Flow.TheVariants.{Am}
use Rattle.bearer.specs.Hearing.{arrived}
use Rattle.journal_lives.specs.CountsCome.{CountsCome}
use Rattle.journal_takes.specs.TakeEvents.{TakeEvent}
use Rattle.journal_given.specs.declared.supply.GivenPdu.{GivenPdu}
use Rattle.journal_given.specs.Supplies.{Supply, History, histories, told, confirmation, confirms_all, confirms}
use Rattle.law_bearer.specs.AnyBearer.Calls.{Arrive, after}
use Rattle.law_takes.specs.Histories.{Confirms, confirming, IsTold}
use Rattle.law_takes.proofs.Deeds.{deeds_are_told}
use Rattle.law_given.specs.Confirming.{those_from}
use Rattle.law_given.specs.Supplied.{Progress, unconfirmed_from, ArePdus, IsOwed, run_of, IsSupplied}
use Rattle.law_given.specs.SupplyLaws.{ConfirmsAnew, StatusesAreGathered}

-- ---- ascending numbers are those of a test

abbrev pub has : List ℕ → ℕ → Bool
has numbers number = list_any (λ (own : ℕ). own == number) numbers

has-none : (numbers : List ℕ) (low number : ℕ) → IsAscending low numbers → number < low → has numbers number ≡ false
has-none [] low number h lt = refl
has-none (x ∷ xs) low number h lt =
    ap (λ (b : Bool). b || has xs number) (ne_eqb x number (λ e. absurd (omega (arith, e, h.0, lt))))
    ∙ has-none xs (x + 1) number h.1 (omega (arith, h.0, lt))

listed-so : (q : ℕ → Bool) (n at : ℕ) (b : Bool) → q at ≡ b
    → those_from q at (suc n) ≡ (if b then at ∷ those_from q (at + 1) n else those_from q (at + 1) n)
listed-so q n at b e = ap (λ (c : Bool). if c then at ∷ those_from q (at + 1) n else those_from q (at + 1) n) e

pub ascending-are : (q : ℕ → Bool) (n at : ℕ) (numbers : List ℕ) → IsAscending at numbers
    → ((k : ℕ) → at ≤ k → has numbers k ≡ q k) → ((k : ℕ) → at + n ≤ k → q k ≡ false)
    → numbers ≡ those_from q at n
ascending-are q zero at [] h m f = refl
ascending-are q zero at (x ∷ xs) h m f =
    let yes : has (x ∷ xs) x ≡ true = ap (λ (b : Bool). b || has xs x) (eq-eqb x x refl) in
    let no : true ≡ false = sym yes ∙ m x h.0 ∙ f x (omega (arith, h.0)) in
    absurd cc
ascending-are q (suc n) at [] h m f =
    ascending-are q n (at + 1) [] tt (λ k le. m k (omega (arith, le))) (λ k le. f k (omega (arith, le)))
    ∙ sym (listed-so q n at false (sym (m at (omega arith))))
ascending-are q (suc n) at (x ∷ xs) h m f = elim (cases_eq x at) [
  | inl e ↦
      let here : q at ≡ true =
      sym (m at (omega arith)) ∙ ap (λ (b : Bool). b || has xs at) (eq-eqb x at e) in
      let low : IsAscending (at + 1) xs = subst (λ (k : ℕ). IsAscending (k + 1) xs) e h.1 in
      ap (λ (k : ℕ). k ∷ xs) e
      ∙ ap (λ (l : List ℕ). at ∷ l) (ascending-are q n (at + 1) xs low
      (λ k le. sym (ap (λ (b : Bool). b || has xs k) (ne_eqb x k (λ same. absurd (omega (arith, same, e, le)))))
      ∙ m k (omega (arith, le)))
      (λ k le. f k (omega (arith, le))))
      ∙ sym (listed-so q n at true here)
  | inr ne ↦
      let above : at + 1 ≤ x = omega (arith, ne, h.0) in
      let out : q at ≡ false =
      sym (m at (omega arith)) ∙ has-none (x ∷ xs) (at + 1) at (above, h.1) (omega arith) in
      ascending-are q n (at + 1) (x ∷ xs) (above, h.1) (λ k le. m k (omega (arith, le)))
      (λ k le. f k (omega (arith, le)))
      ∙ sym (listed-so q n at false out)
]

-- and those of a test ascend
pub numbers-ascend : (q : ℕ → Bool) (n low at : ℕ) → low ≤ at → IsAscending low (those_from q at n)
numbers-ascend q zero low at le = tt
numbers-ascend q (suc n) low at le =
    by (q at) (numbers-ascend q n low (at + 1) (omega (arith, le))) (numbers-ascend q n (at + 1) (at + 1) (omega arith))
  where
    by : (b : Bool) → IsAscending low (those_from q (at + 1) n) → IsAscending (at + 1) (those_from q (at + 1) n)
        → IsAscending low (if b then at ∷ those_from q (at + 1) n else those_from q (at + 1) n)
    by true h k = (le, k)
    by false h k = h

pub numbers-are : (q : ℕ → Bool) (n at number : ℕ) → at ≤ number → (at + n ≤ number → q number ≡ false)
    → has (those_from q at n) number ≡ q number
numbers-are q zero at number le f = sym (f (omega (arith, le)))
numbers-are q (suc n) at number le f = elim (cases_eq at number) [
  | inl e ↦ here (q at) refl e (has-none (those_from q (at + 1) n) (at + 1) number
      (numbers-ascend q n (at + 1) (at + 1) (omega arith)) (omega (arith, e)))
  | inr ne ↦
      later (q at) ne (numbers-are q n (at + 1) number (omega (arith, ne, le)) (λ above. f (omega (arith, above))))
]
  where
    here : (b : Bool) → q at ≡ b → at ≡ number → has (those_from q (at + 1) n) number ≡ false
        → has (if b then at ∷ those_from q (at + 1) n else those_from q (at + 1) n) number ≡ q number
    here true is e none =
        ap (λ (b : Bool). b || has (those_from q (at + 1) n) number) (eq-eqb at number e) ∙ sym (sym (ap q e) ∙ is)
    here false is e none = none ∙ sym (sym (ap q e) ∙ is)

    later : (b : Bool) → at ≢ number → has (those_from q (at + 1) n) number ≡ q number
        → has (if b then at ∷ those_from q (at + 1) n else those_from q (at + 1) n) number ≡ q number
    later true ne ih =
        ap (λ (b : Bool). b || has (those_from q (at + 1) n) number) (ne_eqb at number ne) ∙ ih
    later false ne ih = ih

-- ---- PDCP learns of each number

abbrev pub all_confirmed : List ℕ → Sending → Sending
all_confirmed [] x = x
all_confirmed (number ∷ numbers) x = all_confirmed numbers (confirmed x number)

pub confirms-sender : (numbers : List ℕ) (e : Ends) → (confirms_places numbers e).tx ≡ all_confirmed numbers e.tx
confirms-sender [] e = refl
confirms-sender (number ∷ numbers) e = confirms-sender numbers (record e { tx = confirmed e.tx number })

one-owed : (x : Sending) (number : ℕ) → (confirmed x number).owed ≡ x.owed
unfolding confirmed
one-owed x number = refl

all-owed : (numbers : List ℕ) (x : Sending) → (all_confirmed numbers x).owed ≡ x.owed
all-owed [] x = refl
all-owed (number ∷ numbers) x = all-owed numbers (confirmed x number) ∙ one-owed x number

-- ---- what is gathered

record Confirmed (x : Sending) (given : List (Option ℕ)) (s u : Supply History) (open' : List GivenPdu) : Type 0 where
  told : IsTold u.takes.first u.takes.bits (run_of x given u.takes)
  takes_bits : u.takes.bits ≡ s.takes.bits
  bits : u.bits ≡ s.bits
  many : u.given ≡ s.given
  said : u.said ≡ s.said
  report : u.report ≡ s.report
  unconfirmed : u.unconfirmed ≡ s.unconfirmed ++ open'

same-event : (count : Option ℕ) → confirming count ≡ confirmation count
same-event None = refl
same-event (Some count) = refl

-- one is confirmed
one-told : (x : Sending) (given : List (Option ℕ)) (s : Supply History) (number : ℕ) (count : Option ℕ)
    → slice_get given number ≡ Some count → IsTold s.takes.first s.takes.bits (run_of x given s.takes)
    → IsTold s.takes.first s.takes.bits
    (run_of (confirmed x number) given (told histories (confirmation count) s).takes)
one-told x given s number count is h =
    subst (λ (e : TakeEvent). IsTold s.takes.first s.takes.bits (record {
      sender = confirmed x number;
      given = given;
      events = e ∷ s.takes.events;
    })) (same-event count)
    (subst (λ (o : Option (Option ℕ)). IsTold s.takes.first s.takes.bits (record {
      sender = confirmed x number;
      given = given;
      events = option_to_list (option_map confirming o) ++ s.takes.events;
    })) is
    (deeds_are_told s.takes.first s.takes.bits (run_of x given s.takes) (Confirms number) tt h))

abbrev newly : (ℕ → Bool) → (ℕ → Bool) → ℕ → Bool
newly before behind number = behind number && not (before number)

-- of those from a number on
all-told : (counts : List (Option ℕ)) (before behind : ℕ → Bool) (at : ℕ) (x : Sending) (given : List (Option ℕ))
    (s : Supply History) → ((k : ℕ) → before k ≡ true → behind k ≡ true)
    → ((k : ℕ) (count : Option ℕ) → slice_get counts k ≡ Some count → slice_get given (at + k) ≡ Some count)
    → IsTold s.takes.first s.takes.bits (run_of x given s.takes)
    → Confirmed (all_confirmed (those_from (newly before behind) at (length counts)) x) given s
    (confirms_all histories behind (unconfirmed_from before at counts) s) (unconfirmed_from behind at counts)
all-told [] before behind at x given s stay g h = record {
  told = h;
  takes_bits = refl;
  bits = refl;
  many = refl;
  said = refl;
  report = refl;
  unconfirmed = sym (append-nil s.unconfirmed);
}
all-told (c ∷ counts) before behind at x given s stay g h =
    by (before at) (behind at) refl refl
    (λ y v k. all-told counts before behind (at + 1) y given v stay
    (λ n count is.
    let same : at + 1 + n ≡ at + suc n = omega arith in
    ap (slice_get given) same ∙ g (suc n) count is) k)
  where
    by : (a b : Bool) → before at ≡ a → behind at ≡ b
        → ((y : Sending) (v : Supply History) → IsTold v.takes.first v.takes.bits (run_of y given v.takes)
        → Confirmed (all_confirmed (those_from (newly before behind) (at + 1) (length counts)) y) given v
        (confirms_all histories behind (unconfirmed_from before (at + 1) counts) v)
        (unconfirmed_from behind (at + 1) counts))
        → Confirmed
        (all_confirmed (if b && not a then at ∷ those_from (newly before behind) (at + 1) (length counts)
        else those_from (newly before behind) (at + 1) (length counts)) x) given s
        (confirms_all histories behind (if a then unconfirmed_from before (at + 1) counts
        else record { number = at; count = c } ∷ unconfirmed_from before (at + 1) counts) s)
        (if b then unconfirmed_from behind (at + 1) counts
        else record { number = at; count = c } ∷ unconfirmed_from behind (at + 1) counts)
    by true true e f rest = rest x s h
    by true false e f rest = let no : true ≡ false = sym (stay at e) ∙ f in absurd cc
    by false true e f rest =
        let v = told histories (confirmation c) s in
        let here : slice_get given at ≡ Some c =
        let same : at ≡ at + 0 = omega arith in
        ap (slice_get given) same ∙ g zero c refl in
        let r = rest (confirmed x at) v (one-told x given s at c here h) in
        subst (λ (t : Bool). Confirmed
        (all_confirmed (those_from (newly before behind) (at + 1) (length counts)) (confirmed x at)) given s
        (confirms_all histories behind (unconfirmed_from before (at + 1) counts)
        (if t then told histories (confirmation c) s
        else record s { unconfirmed = s.unconfirmed ++ record { number = at; count = c } ∷ [] }))
        (unconfirmed_from behind (at + 1) counts)) (sym f)
        (record {
          told = r.told;
          takes_bits = r.takes_bits;
          bits = r.bits;
          many = r.many;
          said = r.said;
          report = r.report;
          unconfirmed = r.unconfirmed;
        })
    by false false e f rest =
        let v : Supply History = record s { unconfirmed = s.unconfirmed ++ record { number = at; count = c } ∷ [] } in
        let r = rest x v h in
        subst (λ (t : Bool). Confirmed
        (all_confirmed (those_from (newly before behind) (at + 1) (length counts)) x) given s
        (confirms_all histories behind (unconfirmed_from before (at + 1) counts)
        (if t then told histories (confirmation c) s
        else record s { unconfirmed = s.unconfirmed ++ record { number = at; count = c } ∷ [] }))
        (record { number = at; count = c } ∷ unconfirmed_from behind (at + 1) counts)) (sym f)
        (record {
          told = r.told;
          takes_bits = r.takes_bits;
          bits = r.bits;
          many = r.many;
          said = r.said;
          report = r.report;
          unconfirmed = r.unconfirmed
              ∙ append_assoc s.unconfirmed (record { number = at; count = c } ∷ [])
              (unconfirmed_from behind (at + 1) counts);
        })

-- ---- the whole

pub confirmed-beside : (rlc : Progress) (behind : ℕ → Bool) (x : Sending) (s : Supply History) (numbers : List ℕ)
    → ConfirmsAnew rlc.is_confirmed behind s.given numbers → IsSupplied rlc x s
    → IsSupplied (record rlc { is_confirmed = behind }) (all_confirmed numbers x) (confirms histories behind s)
confirmed-beside rlc behind x s numbers a h =
    let before = rlc.is_confirmed in
    let after' : Progress = record rlc { is_confirmed = behind } in
    let all : numbers ≡ those_from (newly before behind) 0 (length h.given) =
    ascending-are (newly before behind) (length h.given) 0 numbers a.ascend (λ k le. a.are_new k)
    (λ k le. ap (λ (b : Bool). b && not (before k)) (a.only_given k (omega (arith, le, h.many)))) in
    let empty : Supply History = record s { unconfirmed = [] } in
    let u : Supply History = confirms_all histories behind (unconfirmed_from before 0 h.given) empty in
    let r = all-told h.given before behind 0 x h.given empty a.stay
    (λ k count is. let same : 0 + k ≡ k = omega arith in ap (slice_get h.given) same ∙ is) h.told in
    subst (λ (l : List GivenPdu). IsSupplied after' (all_confirmed numbers x) (confirms_all histories behind l empty))
    (sym h.unconfirmed)
    (subst (λ (l : List ℕ). IsSupplied after' (all_confirmed l x) u) (sym all)
    (record {
      bits = r.takes_bits ∙ h.bits ∙ sym r.bits;
      given = h.given;
      told = r.told;
      many = r.many ∙ h.many;
      pdus = subst (λ (n : ℕ). ArePdus n u.said h.given rlc.offered) (sym r.bits)
          (subst (λ (said : CountsCome). ArePdus s.bits said h.given rlc.offered) (sym r.said) h.pdus);
      unconfirmed = r.unconfirmed;
      only_given = λ k le. a.only_given k (omega (arith, le, r.many));
      owed = subst (λ (o : Option (List ℕ)). IsOwed u.bits u.said h.given o)
          (sym (all-owed (those_from (newly before behind) 0 (length h.given)) x))
          (subst (λ (n : ℕ). IsOwed n u.said h.given x.owed) (sym r.bits)
          (subst (λ (said : CountsCome). IsOwed s.bits said h.given x.owed) (sym r.said) h.owed));
      report = r.report ∙ h.report;
      came = λ e. subst (λ (n : ℕ). 0 < n) (sym r.many) (h.came e);
    }))

pub status-pdcp : (h : Heard) (w : Work) → (status_work h w).pdcp ≡ w.pdcp
status-pdcp heard_as.Ignored w = refl
status-pdcp (heard_as.Limit sn) w = refl
status-pdcp (heard_as.Applied stopped) w = refl

status-sender : (b d : State) (pdu : List ℕ) (status : StatusPdu) → am_at pdu ≡ Ok (Status status)
    → after (Am b) (Arrive pdu) ≡ Am d
    → d.pdcp.tx ≡ all_confirmed (after_status b.tx status).accounts.news b.pdcp.tx
unfolding arrived after_arrival
status-sender b d pdu status read e =
    let one : Am (arrived_left (am_at pdu) b) ≡ Am d = e in
    let same : d ≡ arrived_left (am_at pdu) b = cc in
    ap (λ (y : State). y.pdcp.tx) same
    ∙ ap (λ (r : Result AcknowledgedPdu RlcRefusal). (arrived_left r b).pdcp.tx) read
    ∙ ap (λ (y : Ends). y.tx) (status-pdcp (heard b.tx status) _)
    ∙ confirms-sender (after_status b.tx status).accounts.news b.pdcp

pub statuses_are_gathered : StatusesAreGathered
statuses_are_gathered rlc behind b d pdu status s read e a h =
    subst (λ (y : Sending). IsSupplied (record rlc { is_confirmed = behind }) y (confirms histories behind s))
    (sym (status-sender b d pdu status read e))
    (confirmed-beside rlc behind b.pdcp.tx s (after_status b.tx status).accounts.news a h)
