-- A block that comes, beside what is gathered of both directions.
use Rattle.std.proofs.Common.{◌≡◌, ℕ, zero, suc, ◌+◌, ◌≤◌, ◌<◌, Bool, true, false, ◌&&◌, if◌then◌else◌, nat_lt, List}
use Rattle.std.proofs.Common.{[], ◌∷◌, ◌++◌, map, length, take, drop, Option, Some, None, Result, Ok, Err, refl}
use Rattle.std.proofs.Common.{ap, sym, ◌∙◌, subst, arith}
use Rattle.std.proofs.lemmas.Bool.{lt-ltb}
use Rattle.std.specs.Prelude.{option_to_list, not}
use Rattle.std.specs.List.{AllByRecursion}
use Rattle.l2_types.specs.declared.side.Side.TheVariants.{Nb, Ue}
use Rattle.pdcp_pdu.specs.declared.PdcpKind.{PdcpKind}
use Rattle.pdcp_pdu.specs.declared.PdcpKind.TheVariants.{Am as AmKind}
use Rattle.pdcp_rx.specs.Heard.{Heard, Bad, Told, Data, heard, heard_user}
use Rattle.pdcp_tx.specs.State.{State as Sending, confirmed, reported, fms_count}
use Rattle.rlc_pdu.specs.declared.fault.RlcRefusal.{RlcRefusal}
use Rattle.rlc_pdu.specs.Pdus.{AcknowledgedPdu, Payload, Status}
use Rattle.rlc_pdu.specs.Reading.{am_at}
use Rattle.rlc_am_tx.specs.Machine.{after_status, heard as heard_status}
use Rattle.bearer_pdcp.specs.Ends.{Ends}
use Rattle.bearer.specs.Acknowledged.State.{State}
use Rattle.bearer.specs.Acknowledged.Hearing.{arrived_left, after_arrival}
use Rattle.bearer.specs.declared.flow.Flow.{Flow}
use Rattle.bearer.specs.declared.flow.Flow.TheVariants.{Am}
use Rattle.bearer.specs.Hearing.{arrived}
use Rattle.journal_lives.specs.CountsCome.{CountsCome}
use Rattle.journal_takes.specs.TakeEvents.{TakeEvent, ReportHeard}
use Rattle.journal_given.specs.declared.supply.GivenPdu.{GivenPdu}
use Rattle.journal_given.specs.RightTakes.{IsSaid}
use Rattle.journal_given.specs.Supplies.{Supply, History, histories, told, confirmation, confirms_one}
use Rattle.journal_given.specs.Supplies.{confirms_all}
use Rattle.law_bearer.specs.AnyBearer.Calls.{Arrive, after, after_all}
use Rattle.law_bearer.specs.AnyBearer.Rounds.{arrivals}
use Rattle.law_bearer.specs.AmBearer.Calls.{IsOfData, IsIdle, deeds_of}
use Rattle.law_bearer.specs.AmBearer.Deeds.{does_all}
use Rattle.law_bearer.proofs.AmBearer.Calls.{calls_are_deeds}
use Rattle.law_takes.specs.Laws.{IsReport}
use Rattle.law_given.specs.BearerRecords.{comes_by, gone_by, heard_by, confirms_by}
use Rattle.law_given.specs.Supplied.{Progress, unconfirmed_from, IsReadAs, IsNoReport, ArePdus, AreCounts}
use Rattle.law_given.specs.Supplied.{IsReportFirst, IsOwed, report_in, IsSupplied}
use Rattle.law_given.specs.SupplyLaws.{ConfirmsAnew, AreReports, hears_all}
use Rattle.law_given.specs.Landing.{Block, pdus_of, BringsNoData, BringsNoStatus, news_in, news_of, ready_in, ready_of}
use Rattle.law_given.specs.Landing.{BringsInSequence, Lands, IsLanded, BlocksAreLanded}
use Rattle.law_given.proofs.SupplyConfirming.{all_confirmed, confirms-sender, status-pdcp, confirmed-beside}
use Rattle.law_given.proofs.SupplyLives.{data_is_gathered, refused_stay}

-- ---- a PDU arrives

pub arrives-so : (b : State) (pdu : List ℕ) → after (Am b) (Arrive pdu) ≡ Am (after_arrival b pdu)
unfolding arrived
arrives-so b pdu = refl

pub record Stands (bits : ℕ) (b : State) : Type 0 where
  pub of_data : IsOfData bits b
  pub idle : IsIdle b

pub stands-on : (bits : ℕ) (b : State) (pdu : List ℕ) → Stands bits b → Stands bits (after_arrival b pdu)
stands-on bits b pdu h =
    let x = calls_are_deeds bits b (Arrive pdu) h.of_data h.idle in
    let both : Am (does_all (deeds_of b (Arrive pdu)) b) ≡ Am (after_arrival b pdu) = sym x.left ∙ arrives-so b pdu in
    let same : does_all (deeds_of b (Arrive pdu)) b ≡ after_arrival b pdu = cc in
    record { of_data = subst (IsOfData bits) same x.stays; idle = subst IsIdle same x.idle }

-- ---- all of a block

abbrev pub behind : List (List ℕ) → State → State
behind [] b = b
behind (pdu ∷ pdus) b = behind pdus (after_arrival b pdu)

pub all-arrive : (pdus : List (List ℕ)) (b : State) → after_all (Am b) (arrivals pdus) ≡ Am (behind pdus b)
all-arrive [] b = refl
all-arrive (pdu ∷ pdus) b =
    ap (λ (f : Flow). after_all f (arrivals pdus)) (arrives-so b pdu) ∙ all-arrive pdus (after_arrival b pdu)

behind-both : (pdus more : List (List ℕ)) (b : State) → behind (pdus ++ more) b ≡ behind more (behind pdus b)
behind-both [] more b = refl
behind-both (pdu ∷ pdus) more b = behind-both pdus more (after_arrival b pdu)

all-stand : (bits : ℕ) (pdus : List (List ℕ)) (b : State) → Stands bits b → Stands bits (behind pdus b)
all-stand bits [] b h = h
all-stand bits (pdu ∷ pdus) b h = all-stand bits pdus (after_arrival b pdu) (stands-on bits b pdu h)

-- ---- STATUS PDUs

pub record Confirms (b d : State) (news : List ℕ) : Type 0 where
  pub sender : d.pdcp.tx ≡ all_confirmed news b.pdcp.tx
  pub receiver : d.rx ≡ b.rx

one-left : (r : Result AcknowledgedPdu RlcRefusal) (b : State) → BringsNoData r
    → Confirms b (arrived_left r b) (news_in r b)
one-left (Err why) b h = record { sender = refl; receiver = refl }
one-left (Ok (Payload data')) b h = absurd h
one-left (Ok (Status status)) b h = record {
  sender = ap (λ (y : Ends). y.tx) (status-pdcp (heard_status b.tx status) _)
      ∙ confirms-sender (after_status b.tx status).accounts.news b.pdcp;
  receiver = refl;
}

pub one-confirms : (b : State) (pdu : List ℕ) → BringsNoData (am_at pdu)
    → Confirms b (after_arrival b pdu) (news_in (am_at pdu) b)
unfolding after_arrival
one-confirms b pdu h = one-left (am_at pdu) b h

confirmed-both : (news more : List ℕ) (x : Sending)
    → all_confirmed (news ++ more) x ≡ all_confirmed more (all_confirmed news x)
confirmed-both [] more x = refl
confirmed-both (number ∷ news) more x = confirmed-both news more (confirmed x number)

all-confirm : (pdus : List (List ℕ)) (b : State) → AllByRecursion (λ (pdu : List ℕ). BringsNoData (am_at pdu)) pdus
    → Confirms b (behind pdus b) (news_of pdus b)
all-confirm [] b h = record { sender = refl; receiver = refl }
all-confirm (pdu ∷ pdus) b h =
    let d = after_arrival b pdu in
    let one = one-confirms b pdu h.0 in
    let more = all-confirm pdus d h.1 in
    record {
      sender = more.sender
          ∙ ap (all_confirmed (news_of pdus d)) one.sender
          ∙ sym (confirmed-both (news_in (am_at pdu) b) (news_of pdus d) b.pdcp.tx);
      receiver = more.receiver ∙ one.receiver;
    }

-- a status report is read alike behind them
record ReadsAlike (x y : Sending) : Type 0 where
  kind : y.kind ≡ x.kind
  base : y.base ≡ x.base
  next : y.next ≡ x.next

one-alike : (x : Sending) (number : ℕ) → ReadsAlike x (confirmed x number)
unfolding confirmed
one-alike x number = record { kind = refl; base = refl; next = refl }

all-alike : (news : List ℕ) (x : Sending) → ReadsAlike x (all_confirmed news x)
all-alike [] x = record { kind = refl; base = refl; next = refl }
all-alike (number ∷ news) x =
    let one = one-alike x number in
    let more = all-alike news (confirmed x number) in
    record { kind = more.kind ∙ one.kind; base = more.base ∙ one.base; next = more.next ∙ one.next }

report-alike : (x y : Sending) (from : ℕ) (marks : List ℕ) (fms : ℕ) (bitmap : List ℕ) → ReadsAlike x y
    → IsReport x from marks fms bitmap → IsReport y from marks fms bitmap
report-alike x y from marks fms bitmap a r = record {
  read = ap (λ (kind : PdcpKind). fms_count kind y.base fms) a.kind
      ∙ ap (λ (n : ℕ). fms_count x.kind n fms) a.base ∙ r.read;
  marked = λ count le lt. r.marked count le (subst (λ (n : ℕ). count < n) a.next lt);
}

-- ---- where none comes nothing is confirmed

same-confirmed : (before after' : ℕ → Bool) (given k : ℕ) → ConfirmsAnew before after' given []
    → after' k ≡ before k
same-confirmed before after' given k a = by (before k) refl (after' k) refl
  where
    by : (c : Bool) → before k ≡ c → (d : Bool) → after' k ≡ d → after' k ≡ before k
    by true e d f = a.stay k e ∙ sym e
    by false e true f =
        let no : false ≡ (true && not false) =
        a.are_new k ∙ ap (λ (b : Bool). b && not (before k)) f ∙ ap (λ (b : Bool). true && not b) e in
        absurd cc
    by false e false f = f ∙ sym e

same-unconfirmed : (p q : ℕ → Bool) → ((k : ℕ) → q k ≡ p k) → (at : ℕ) (counts : List (Option ℕ))
    → unconfirmed_from q at counts ≡ unconfirmed_from p at counts
same-unconfirmed p q h at [] = refl
same-unconfirmed p q h at (count ∷ counts) =
    ap (λ (b : Bool). if b then unconfirmed_from q (at + 1) counts
    else record { number = at; count = count } ∷ unconfirmed_from q (at + 1) counts) (h at)
    ∙ ap (λ (l : List GivenPdu). if p at then l else record { number = at; count = count } ∷ l)
    (same-unconfirmed p q h (at + 1) counts)

none-beside : (rlc : Progress) (after' : ℕ → Bool) (x : Sending) (s : Supply History)
    → ConfirmsAnew rlc.is_confirmed after' s.given []
    → IsSupplied rlc x s → IsSupplied (record rlc { is_confirmed = after' }) x s
none-beside rlc after' x s a h = record {
  bits = h.bits;
  given = h.given;
  told = h.told;
  many = h.many;
  pdus = h.pdus;
  unconfirmed = h.unconfirmed
      ∙ sym (same-unconfirmed rlc.is_confirmed after'
      (λ k. same-confirmed rlc.is_confirmed after' s.given k a) 0 h.given);
  only_given = a.only_given;
  owed = h.owed;
  report = h.report;
  came = h.came;
}

confirmed-by : (status : Bool) (rlc : Progress) (after' : ℕ → Bool) (x : Sending) (s : Supply History)
    (news : List ℕ) → (status ≡ false → news ≡ []) → ConfirmsAnew rlc.is_confirmed after' s.given news
    → IsSupplied rlc x s
    → IsSupplied (record rlc { is_confirmed = after' }) (all_confirmed news x)
    (confirms_by histories status after' s)
confirmed-by true rlc after' x s news none a h = confirmed-beside rlc after' x s news a h
confirmed-by false rlc after' x s news none a h =
    subst (λ (l : List ℕ). IsSupplied (record rlc { is_confirmed = after' }) (all_confirmed l x) s) (sym (none refl))
    (none-beside rlc after' x s
    (subst (λ (l : List ℕ). ConfirmsAnew rlc.is_confirmed after' s.given l) (none refl) a) h)

-- what its status report says, and the bits of sequence numbers, stay
pub record SaysAlike (s u : Supply History) : Type 0 where
  pub bits : u.bits ≡ s.bits
  pub said : u.said ≡ s.said

pub says-on : (s u v : Supply History) → SaysAlike s u → SaysAlike u v → SaysAlike s v
says-on s u v h k = record { bits = k.bits ∙ h.bits; said = k.said ∙ h.said }

one-says : (b : Bool) (e : TakeEvent) (pdu : GivenPdu) (s : Supply History)
    → SaysAlike s (if b then told histories e s else record s { unconfirmed = s.unconfirmed ++ pdu ∷ [] })
one-says true e pdu s = record { bits = refl; said = refl }
one-says false e pdu s = record { bits = refl; said = refl }

all-say : (p : ℕ → Bool) (pdus : List GivenPdu) (s : Supply History) → SaysAlike s (confirms_all histories p pdus s)
all-say p [] s = record { bits = refl; said = refl }
all-say p (pdu ∷ pdus) s =
    let u = confirms_one histories p pdu s in
    says-on s u (confirms_all histories p pdus u) (one-says (p pdu.number) (confirmation pdu.count) pdu s)
    (all-say p pdus u)

pub confirmed-says : (status : Bool) (p : ℕ → Bool) (s : Supply History)
    → SaysAlike s (confirms_by histories status p s)
confirmed-says true p s =
    let u : Supply History = record s { unconfirmed = [] } in
    says-on s u (confirms_all histories p s.unconfirmed u) (record { bits = refl; said = refl })
    (all-say p s.unconfirmed u)
confirmed-says false p s = record { bits = refl; said = refl }

-- ---- data

none-heard : (reports : List CountsCome) (x : Sending) (s : Supply History) → AreReports x [] reports
    → hears_all reports s ≡ s
none-heard [] x s r = refl
none-heard (said ∷ reports) x s r = absurd r

last-beside : (p : Progress) (o : Option (List ℕ)) (b : State) (reports : List CountsCome) (s : Supply History)
    → AllByRecursion (λ (pdu : List ℕ). BringsNoStatus (am_at pdu)) (option_to_list o)
    → Stands s.bits b
    → AreReports b.pdcp.tx (map (heard b.pdcp.rx.kind) (ready_of o b.rx)) reports → IsSupplied p b.pdcp.tx s
    → IsSupplied p (behind (option_to_list o) b).pdcp.tx (hears_all reports s)
last-beside p None b reports s l k r h =
    subst (λ (u : Supply History). IsSupplied p b.pdcp.tx u) (sym (none-heard reports b.pdcp.tx s r)) h
last-beside p (Some pdu) b reports s l k r h = by (am_at pdu) refl l.0 r
  where
    by : (read : Result AcknowledgedPdu RlcRefusal) → am_at pdu ≡ read → BringsNoStatus read
        → AreReports b.pdcp.tx (map (heard b.pdcp.rx.kind) (ready_in read b.rx)) reports
        → IsSupplied p (after_arrival b pdu).pdcp.tx (hears_all reports s)
    by (Err why) e n r =
        subst (λ (y : State). IsSupplied p y.pdcp.tx (hears_all reports s))
        (sym (refused_stay b (after_arrival b pdu) pdu why e (arrives-so b pdu)))
        (subst (λ (u : Supply History). IsSupplied p b.pdcp.tx u) (sym (none-heard reports b.pdcp.tx s r)) h)
    by (Ok (Payload data')) e n r =
        data_is_gathered p b (after_arrival b pdu) pdu data' reports s e k.of_data k.idle (arrives-so b pdu) r h
    by (Ok (Status status)) e n r = absurd n

-- ---- the status report among what RLC hands up

abbrev said_if : Bool → CountsCome → List CountsCome
said_if true said = said ∷ []
said_if false said = []

heard-if : (b : Bool) (said : CountsCome) (s : Supply History)
    → hears_all (said_if b said) s ≡ (if b then told histories (ReportHeard said.next said.beyond) s else s)
heard-if true said s = refl
heard-if false said s = refl

abbrev IsPlain : ℕ → List ℕ → Type 0
IsPlain bits pdu = IsNoReport (heard (AmKind bits) pdu)

none-among : (bits : ℕ) (pdus : List (List ℕ)) (x : Sending) → AllByRecursion (IsPlain bits) pdus
    → AreReports x (map (heard (AmKind bits)) pdus) []
none-among bits [] x h = tt
none-among bits (pdu ∷ pdus) x h = by (heard (AmKind bits) pdu) h.0 (none-among bits pdus x h.1)
  where
    by : (one : Heard) → IsNoReport one → AreReports x (map (heard (AmKind bits)) pdus) []
        → AreReports x (one ∷ map (heard (AmKind bits)) pdus) []
    by (Bad refusal) n r = r
    by (Told fms bitmap) n r = absurd n
    by (Data sn body) n r = r

plain-taken : (bits n : ℕ) (pdus : List (List ℕ)) → AllByRecursion (IsPlain bits) pdus
    → AllByRecursion (IsPlain bits) (take n pdus)
plain-taken bits zero pdus h = tt
plain-taken bits (suc n) [] h = tt
plain-taken bits (suc n) (pdu ∷ pdus) h = (h.0, plain-taken bits n pdus h.1)

plain-left : (bits n : ℕ) (pdus : List (List ℕ)) → AllByRecursion (IsPlain bits) pdus
    → AllByRecursion (IsPlain bits) (drop n pdus)
plain-left bits zero pdus h = h
plain-left bits (suc n) [] h = tt
plain-left bits (suc n) (pdu ∷ pdus) h = plain-left bits n pdus h.1

plain-slice : (bits n m : ℕ) (pdus : List (List ℕ)) → AllByRecursion (IsPlain bits) pdus
    → AllByRecursion (IsPlain bits) (drop n (take m pdus))
plain-slice bits n m pdus h = plain-left bits n (take m pdus) (plain-taken bits m pdus h)

counts-plain : (bits : ℕ) (said : CountsCome) (counts : List (Option ℕ)) (pdus : List (List ℕ)) → AreCounts counts
    → ArePdus bits said counts pdus → AllByRecursion (IsPlain bits) pdus
counts-plain bits said [] [] c h = tt
counts-plain bits said [] (pdu ∷ pdus) c h = absurd h
counts-plain bits said (None ∷ counts) pdus c h = absurd c
counts-plain bits said (Some count ∷ counts) [] c h = absurd h
counts-plain bits said (Some count ∷ counts) (pdu ∷ pdus) c h = (h.0, counts-plain bits said counts pdus c h.1)

pub report-heard : (bits : ℕ) (pdu : List ℕ) (said : CountsCome) → (r : IsReadAs bits pdu said)
    → heard (AmKind bits) pdu ≡ Told r.fms r.bitmap
unfolding heard
report-heard bits pdu said r = ap heard_user r.read

none-waited : (b : Bool) (o : Option ℕ) → (if b then o else o) ≡ o
none-waited true o = refl
none-waited false o = refl

is-some : (n : ℕ) → nat_lt 0 (suc n) ≡ true
is-some n = lt-ltb 0 (suc n) (omega arith)

module _ (bits : ℕ) (said : CountsCome) (x : Sending) (waited : Option ℕ) (sequenced : ℕ → Bool) where
  abbrev Among : List (List ℕ) → Type 0
  Among ready = AreReports x (map (heard (AmKind bits)) ready) (said_if (comes_by sequenced waited) said)

  -- none is waited for
  quietly : (ready : List (List ℕ)) → waited ≡ None → AllByRecursion (IsPlain bits) ready → Among ready
  quietly ready e h =
      subst (λ (w : Option ℕ). AreReports x (map (heard (AmKind bits)) ready) (said_if (comes_by sequenced w) said))
      (sym e) (none-among bits ready x h)

  owed-among : (counts : List (Option ℕ)) (pdu : List ℕ) (pdus : List (List ℕ)) (before after' : ℕ)
      → AreCounts counts → IsReadAs bits pdu said → ArePdus bits said counts pdus
      → waited ≡ (if nat_lt 0 before then None else Some 0) → sequenced 0 ≡ nat_lt 0 after'
      → ((number : ℕ) → waited ≡ Some number → (fms : ℕ) (bitmap : List ℕ) → IsSaid fms bitmap bits said
      → IsReport x said.next said.beyond fms bitmap)
      → Among (drop before (take after' (pdu ∷ pdus)))
  owed-among counts pdu pdus zero zero c k h e is reads =
      let none : comes_by sequenced waited ≡ false = ap (comes_by sequenced) e ∙ is in
      subst (λ (b : Bool). AreReports x [] (said_if b said)) (sym none) tt
  owed-among counts pdu pdus zero (suc m) c k h e is reads =
      let now : comes_by sequenced waited ≡ true = ap (comes_by sequenced) e ∙ is ∙ is-some m in
      let rest = none-among bits (take m pdus) (reported x k.fms k.bitmap)
      (plain-taken bits m pdus (counts-plain bits said counts pdus c h)) in
      subst (λ (b : Bool). AreReports x (map (heard (AmKind bits)) (pdu ∷ take m pdus)) (said_if b said)) (sym now)
      (subst (λ (one : Heard). AreReports x (one ∷ map (heard (AmKind bits)) (take m pdus)) (said ∷ []))
      (sym (report-heard bits pdu said k)) (reads 0 e k.fms k.bitmap k.says, rest))
  owed-among counts pdu pdus (suc n) zero c k h e is reads =
      quietly [] (e ∙ ap (λ (b : Bool). if b then None else Some 0) (is-some n)) tt
  owed-among counts pdu pdus (suc n) (suc m) c k h e is reads =
      quietly (drop n (take m pdus)) (e ∙ ap (λ (b : Bool). if b then None else Some 0) (is-some n))
      (plain-slice bits n m pdus (counts-plain bits said counts pdus c h))

  among : (given : List (Option ℕ)) (offered : List (List ℕ)) (before after' : ℕ) → IsReportFirst given
      → ArePdus bits said given offered → waited ≡ (if nat_lt 0 before then None else report_in given)
      → sequenced 0 ≡ nat_lt 0 after'
      → ((number : ℕ) → waited ≡ Some number → (fms : ℕ) (bitmap : List ℕ) → IsSaid fms bitmap bits said
      → IsReport x said.next said.beyond fms bitmap)
      → Among (drop before (take after' offered))
  among [] [] before after' c h e is reads =
      quietly (drop before (take after' [])) (e ∙ none-waited (nat_lt 0 before) None)
      (plain-slice bits before after' [] tt)
  among [] (pdu ∷ pdus) before after' c h e is reads = absurd h
  among (count ∷ counts) [] before after' c h e is reads = absurd h
  among (None ∷ counts) (pdu ∷ pdus) before after' c h e is reads =
      owed-among counts pdu pdus before after' c h.0 h.1 e is reads
  among (Some count ∷ counts) (pdu ∷ pdus) before after' c h e is reads =
      quietly (drop before (take after' (pdu ∷ pdus))) (e ∙ none-waited (nat_lt 0 before) None)
      (plain-slice bits before after' (pdu ∷ pdus) (h.0, counts-plain bits said counts pdus c h.1))

report-first : (bits : ℕ) (said : CountsCome) (given : List (Option ℕ)) (owed : Option (List ℕ))
    → IsOwed bits said given owed → IsReportFirst given
report-first bits said given None h = h
report-first bits said given (Some report) h = subst IsReportFirst (sym h.0) tt

-- ---- it isn't waited for any more

gone-as : (sequenced : ℕ → Bool) (came now : Bool) (waited : Option ℕ) (given : List (Option ℕ))
    → (came ≡ true → now ≡ true) → sequenced 0 ≡ now → waited ≡ (if came then None else report_in given)
    → (if comes_by sequenced waited then None else waited) ≡ (if now then None else report_in given)
gone-as q true now waited given f is e =
    ap (λ (r : Option ℕ). if comes_by q r then None else r) e
    ∙ ap (λ (b : Bool). if b then None else report_in given) (sym (f refl))
gone-as q false now waited [] f is e =
    ap (λ (r : Option ℕ). if comes_by q r then None else r) e ∙ sym (none-waited now None)
gone-as q false now waited (None ∷ counts) f is e =
    ap (λ (r : Option ℕ). if comes_by q r then None else r) e
    ∙ ap (λ (b : Bool). if b then None else Some 0) is
gone-as q false now waited (Some count ∷ counts) f is e =
    ap (λ (r : Option ℕ). if comes_by q r then None else r) e ∙ sym (none-waited now None)

more-came : (before after' : ℕ) → before ≤ after' → nat_lt 0 before ≡ true → nat_lt 0 after' ≡ true
more-came zero after' le e = absurd cc
more-came (suc n) zero le e = absurd (omega (arith, le))
more-came (suc n) (suc m) le e = is-some m

some-given : (bits : ℕ) (said : CountsCome) (given : List (Option ℕ)) (offered : List (List ℕ)) (after' : ℕ)
    → ArePdus bits said given offered → after' ≤ length offered → nat_lt 0 after' ≡ true → 0 < length given
some-given bits said given offered zero h le e = absurd cc
some-given bits said [] [] (suc m) h le e = absurd (omega (arith, le))
some-given bits said [] (pdu ∷ pdus) (suc m) h le e = absurd h
some-given bits said (count ∷ counts) offered (suc m) h le e = omega arith

-- another is waited for
waits-for : (p : Progress) (x : Sending) (s : Supply History) (now : Bool) (waited : Option ℕ) (h : IsSupplied p x s)
    → waited ≡ (if now then None else report_in h.given) → (now ≡ true → 0 < s.given)
    → IsSupplied (record p { came = now }) x (record s { report = waited })
waits-for p x s now waited h e some = record {
  bits = h.bits;
  given = h.given;
  told = h.told;
  many = h.many;
  pdus = h.pdus;
  unconfirmed = h.unconfirmed;
  only_given = h.only_given;
  owed = h.owed;
  report = e;
  came = some;
}

gone-beside : (p : Progress) (x : Sending) (sequenced : ℕ → Bool) (ready : List (List ℕ)) (s : Supply History)
    → BringsInSequence p sequenced ready → IsSupplied p x s
    → IsSupplied (record p { came = sequenced 0 }) x (gone_by sequenced s)
gone-beside p x sequenced ready s k h =
    by (comes_by sequenced s.report)
    (gone-as sequenced p.came (sequenced 0) s.report h.given later refl h.report)
  where
    later : p.came ≡ true → sequenced 0 ≡ true
    later e = k.sequenced_is 0 ∙ more-came k.before k.behind k.order (sym k.came ∙ e)

    some : sequenced 0 ≡ true → 0 < s.given
    some e =
        subst (λ (n : ℕ). 0 < n) (sym h.many)
        (some-given s.bits s.said h.given p.offered k.behind h.pdus k.given (sym (k.sequenced_is 0) ∙ e))

    by : (b : Bool) → (if b then None else s.report) ≡ (if sequenced 0 then None else report_in h.given)
        → IsSupplied (record p { came = sequenced 0 }) x (if b then record s { report = None } else s)
    by true e = waits-for p x s (sequenced 0) None h e some
    by false e = waits-for p x s (sequenced 0) s.report h e some

pub gone-says : (sequenced : ℕ → Bool) (s : Supply History) → SaysAlike s (gone_by sequenced s)
gone-says sequenced s = by (comes_by sequenced s.report)
  where
    by : (b : Bool) → SaysAlike s (if b then record s { report = None } else s)
    by true = record { bits = refl; said = refl }
    by false = record { bits = refl; said = refl }

pub heard-says : (sequenced : ℕ → Bool) (sent s : Supply History)
    → SaysAlike s (heard_by histories sequenced sent s)
heard-says sequenced sent s = by (comes_by sequenced sent.report)
  where
    by : (b : Bool)
        → SaysAlike s (if b then told histories (ReportHeard sent.said.next sent.said.beyond) s else s)
    by true = record { bits = refl; said = refl }
    by false = record { bits = refl; said = refl }

-- ---- the whole

landed-beside : (k : Block) (status : Bool) (sequenced confirmed' : ℕ → Bool) (there back : Progress)
    (one two d : State) (sent own : Supply History) → IsSupplied there one.pdcp.tx sent
    → IsSupplied back two.pdcp.tx own → Lands k status sequenced confirmed' there back sent own two d
    → IsLanded sent.bits (record there { came = sequenced 0 }) (record back { is_confirmed = confirmed' }) one d
    (gone_by sequenced sent) (heard_by histories sequenced sent (confirms_by histories status confirmed' own))
landed-beside k status sequenced confirmed' there back one two d sent own h g l =
    let begins : Stands own.bits two = record { of_data = l.of_data; idle = l.idle } in
    let between = behind k.statuses two in
    let stands : Stands own.bits between = all-stand own.bits k.statuses two begins in
    let news = news_of k.statuses two in
    let c = all-confirm k.statuses two l.statuses in
    let u = confirms_by histories status confirmed' own in
    let now : Progress = record back { is_confirmed = confirmed' } in
    let comes = comes_by sequenced sent.report in
    let both : Am (behind (pdus_of k) two) ≡ Am d = sym (all-arrive (pdus_of k) two) ∙ l.left in
    let whole : behind (pdus_of k) two ≡ d = cc in
    let same : behind (option_to_list k.last) between ≡ d =
    sym (behind-both k.statuses (option_to_list k.last) two) ∙ whole in
    let beside : IsSupplied now between.pdcp.tx u =
    subst (λ (x : Sending). IsSupplied now x u) (sym c.sender)
    (confirmed-by status back confirmed' two.pdcp.tx own news l.silent l.news g) in
    let alike : ReadsAlike two.pdcp.tx between.pdcp.tx =
    subst (λ (x : Sending). ReadsAlike two.pdcp.tx x) (sym c.sender) (all-alike news two.pdcp.tx) in
    let among' : AreReports between.pdcp.tx
    (map (heard (AmKind sent.bits)) (drop l.brings.before (take l.brings.behind there.offered)))
    (said_if comes sent.said) =
    among sent.bits sent.said between.pdcp.tx sent.report sequenced h.given there.offered l.brings.before
    l.brings.behind (report-first sent.bits sent.said h.given one.pdcp.tx.owed h.owed) h.pdus
    (h.report ∙ ap (λ (b : Bool). if b then None else report_in h.given) l.brings.came) (l.brings.sequenced_is 0)
    (λ number e fms bitmap is. report-alike two.pdcp.tx between.pdcp.tx sent.said.next sent.said.beyond fms bitmap
    alike (l.reads number e fms bitmap is)) in
    let kind : between.pdcp.rx.kind ≡ AmKind sent.bits =
    stands.of_data.receiving ∙ ap (λ (n : ℕ). AmKind n) (sym l.bits) in
    let ready : ready_of k.last between.rx ≡ drop l.brings.before (take l.brings.behind there.offered) =
    ap (ready_of k.last) c.receiver ∙ l.brings.ready_is in
    let reports : AreReports between.pdcp.tx (map (heard between.pdcp.rx.kind) (ready_of k.last between.rx))
    (said_if comes sent.said) =
    subst (λ (x : PdcpKind). AreReports between.pdcp.tx (map (heard x) (ready_of k.last between.rx))
    (said_if comes sent.said)) (sym kind)
    (subst (λ (pdus : List (List ℕ)). AreReports between.pdcp.tx (map (heard (AmKind sent.bits)) pdus)
    (said_if comes sent.said)) (sym ready) among') in
    let bits : u.bits ≡ own.bits = (confirmed-says status confirmed' own).bits in
    let last' = last-beside now k.last between (said_if comes sent.said) u l.last
    (subst (λ (n : ℕ). Stands n between) (sym bits) stands) reports beside in
    let ends = all-stand own.bits (option_to_list k.last) between stands in
    record {
      sender = gone-beside there one.pdcp.tx sequenced (ready_of k.last two.rx) sent l.brings h;
      receiver =
          subst (λ (y : State). IsSupplied now y.pdcp.tx (heard_by histories sequenced sent u)) same
          (subst (λ (v : Supply History). IsSupplied now (behind (option_to_list k.last) between).pdcp.tx v)
          (heard-if comes sent.said u) last');
      of_data = subst (λ (n : ℕ). IsOfData n d) (sym l.bits) (subst (IsOfData own.bits) same ends.of_data);
      idle = subst IsIdle same ends.idle;
      sender_bits = (gone-says sequenced sent).bits;
      receiver_bits = (heard-says sequenced sent u).bits ∙ bits ∙ sym l.bits;
    }

pub blocks_are_landed : BlocksAreLanded
blocks_are_landed Nb k status sequenced confirmed' there back one two d b h g l =
    landed-beside k status sequenced confirmed' there back one two d b.nb b.ue h g l
blocks_are_landed Ue k status sequenced confirmed' there back one two d b h g l =
    landed-beside k status sequenced confirmed' there back one two d b.ue b.nb h g l
