-- The status report of a direction is read as what it says.
use Rattle.std.proofs.Common.{◌≡◌, ℕ, ◌+◌, ◌-◌, ◌^◌, ◌≤◌, Bool, true, false, ◌||◌, if◌then◌else◌, List, [], ◌∷◌, map}
use Rattle.std.proofs.Common.{take, Option, Some, None, slice_get, refl, ap, sym, ◌∙◌, subst, arith, inl, inr, leb-true}
use Rattle.std.specs.Prelude.{nat_le}
use Rattle.std.proofs.lemmas.Bool.{cases_lt}
use Rattle.l2_num.specs.Least.{IsLeast}
use Rattle.pdcp_pdu.specs.Kinds.{IsKind}
use Rattle.pdcp_pdu.specs.declared.PdcpKind.{PdcpKind}
use Rattle.pdcp_pdu.specs.declared.PdcpKind.TheVariants.{Am as AmKind}
use Rattle.pdcp_rx.specs.Heard.{Told, Data, heard}
use Rattle.pdcp_tx.specs.Pdus.{width}
use Rattle.pdcp_tx.specs.State.{State as Sending, ahead, fms_count}
use Rattle.pdcp_tx.specs.declared.sender.Next.{Next}
use Rattle.journal_lives.specs.CountsCome.{CountsCome}
use Rattle.law_pdcp.specs.AmPair.Flow.{Flow as Pdcp}
use Rattle.law_given.specs.Joined.{pdcp, is_among, TellsBegun, IsHeardAs, AreHeardIn}
use Rattle.law_given.specs.Supplied.{IsReadAs, ArePdus, report_in}
use Rattle.law_given.specs.Landing.{ReportsAreHeardSo, ReportsBeginInWindow, WindowsAreRead}
use Rattle.law_given.proofs.Landing.{report-heard}
use Rattle.law_given.proofs.JoinedReports.{or_none, read_in}
use Rattle.law_given.proofs.SupplySaid.{said_is_read}

least-one : (p : ℕ → Bool) (low k l : ℕ) → IsLeast p low k → IsLeast p low l → k ≡ l
least-one p low k l a b = elim (cases_lt k l) [
  | inl lt ↦ let no : true ≡ false = sym (b.before k a.from lt) ∙ a.refused in absurd cc
  | inr ge ↦ elim (cases_lt l k) [
    | inl lt ↦ let no : true ≡ false = sym (a.before l b.from lt) ∙ b.refused in absurd cc
    | inr le ↦ omega (arith, ge, le)
  ]
]

-- ---- the COUNT of an FMS lies in the window

record IsWithin (base bits from : ℕ) : Type 0 where
  low : base ≤ from
  high : from ≤ base + 2 ^ (bits - 1)

width-is : (bits : ℕ) → IsKind (AmKind bits) → width (AmKind bits) ≡ 2 ^ (bits - 1)
width-is bits (inl e) = subst (λ (n : ℕ). width (AmKind n) ≡ 2 ^ (n - 1)) (sym e) refl
width-is bits (inr e) = subst (λ (n : ℕ). width (AmKind n) ≡ 2 ^ (n - 1)) (sym e) refl

fms-within : (bits base fms from : ℕ) → IsKind (AmKind bits) → fms_count (AmKind bits) base fms ≡ Some from
    → IsWithin base bits from
fms-within bits base fms from k e =
    by (nat_le (ahead (AmKind bits) base fms) (width (AmKind bits))) refl e
  where
    by : (b : Bool) → nat_le (ahead (AmKind bits) base fms) (width (AmKind bits)) ≡ b
        → (if b then Some (base + ahead (AmKind bits) base fms) else None) ≡ Some from → IsWithin base bits from
    by true t e =
        let sum : base + ahead (AmKind bits) base fms ≡ from = cc in
        let le : ahead (AmKind bits) base fms ≤ width (AmKind bits) =
        leb-true (ahead (AmKind bits) base fms) (width (AmKind bits)) t in
        let most : ahead (AmKind bits) base fms ≤ 2 ^ (bits - 1) =
        subst (λ (n : ℕ). ahead (AmKind bits) base fms ≤ n) (width-is bits k) le in
        record { low = omega (arith, sum); high = omega (arith, sum, most) }
    by false t e = absurd cc

pub windows_are_read : WindowsAreRead
windows_are_read b sent kind k w fms bitmap is =
    said_is_read sent.bits b.pdcp.tx fms bitmap sent.said kind k.sending is w

-- what had come as the life began, by what is handed up now
began-as : (f : Pdcp) (report : List ℕ) (t : TellsBegun f report) → f.passed ≡ 0 → (count : ℕ)
    → f.handed count ≡ t.begun count
began-as f report t e count =
    t.come count ∙ ap (λ (n : ℕ). t.begun count || is_among (take n f.stream) count) e ∙ sym (or_none (t.begun count))

least-of : (p q : ℕ → Bool) (low k : ℕ) → ((n : ℕ) → p n ≡ q n) → IsLeast p low k → IsLeast q low k
least-of p q low k same h = record {
  from = h.from;
  refused = sym (same k) ∙ h.refused;
  before = λ n le lt. sym (same n) ∙ h.before n le lt;
}

-- the window of a flow's sender
flow-within : (bits : ℕ) (f : Pdcp) (x : Sending) (report : List ℕ) (t : TellsBegun f report) → IsKind (AmKind bits)
    → f.sender.kind ≡ AmKind bits → f.sender ≡ x → IsWithin x.base bits t.tells_begun.from
flow-within bits f x report t kind k sender =
    fms-within bits x.base t.tells_begun.fms t.tells_begun.from kind
    (ap (λ (y : PdcpKind). fms_count y x.base t.tells_begun.fms) (sym k)
    ∙ ap (λ (y : Sending). fms_count f.sender.kind y.base t.tells_begun.fms) (sym sender) ∙ t.tells_begun.read)

pub reports_begin_in_window : ReportsBeginInWindow
reports_begin_in_window c there back one two report said d a b r owed none least =
    let f = pdcp back in
    let x = read_in c back d in
    let t : TellsBegun f report = x.told report (r.owed report (ap (λ (y : Sending). y.owed) a.sender_is ∙ owed)) in
    let same : said.next ≡ t.tells_begun.from =
    least-one t.begun f.first said.next t.tells_begun.from
    (least-of f.handed t.begun f.first said.next (began-as f report t none) least) t.tells_begun.expected in
    let kind : IsKind (AmKind c.pdcp_bits) = subst (λ (n : ℕ). IsKind (AmKind n)) d.bits d.kind in
    let w : IsWithin two.pdcp.tx.base c.pdcp_bits said.next =
    subst (λ (n : ℕ). IsWithin two.pdcp.tx.base c.pdcp_bits n) (sym same)
    (flow-within c.pdcp_bits f two.pdcp.tx report t kind x.kind b.sender_is) in
    record { from = w.low; to = w.high }

-- ---- it is the first that RLC was given

record IsFirst (bits : ℕ) (said : CountsCome) (pdus : List (List ℕ)) : Type 0 where
  report : List ℕ
  rest : List (List ℕ)
  is : pdus ≡ report ∷ rest
  read : IsReadAs bits report said

first-is : (bits : ℕ) (said : CountsCome) (given : List (Option ℕ)) (pdus : List (List ℕ)) (came : Bool)
    (waited : Option ℕ) (number : ℕ) → ArePdus bits said given pdus
    → waited ≡ (if came then None else report_in given) → waited ≡ Some number
    → IsFirst bits said pdus
first-is bits said given pdus true waited number h e q = let no : None ≡ Some number = sym e ∙ q in absurd cc
first-is bits said [] pdus false waited number h e q = let no : None ≡ Some number = sym e ∙ q in absurd cc
first-is bits said (Some count ∷ counts) pdus false waited number h e q =
    let no : None ≡ Some number = sym e ∙ q in absurd cc
first-is bits said (None ∷ counts) [] false waited number h e q = absurd h
first-is bits said (None ∷ counts) (pdu ∷ pdus) false waited number h e q =
    record { report = pdu; rest = pdus; is = refl; read = h.0 }

-- so it tells what had come
begun-told : (bits : ℕ) (f : Pdcp) (said : CountsCome) (report : List ℕ) (count : Option ℕ)
    → f.sender.kind ≡ AmKind bits → IsReadAs bits report said → IsHeardAs f report count → TellsBegun f report
begun-told bits f said report None k r h = h
begun-told bits f said report (Some count) k r h =
    let told : heard (AmKind bits) report ≡ Told r.fms r.bitmap = report-heard bits report said r in
    let data' : heard (AmKind bits) report ≡ Data h.sn h.body =
    ap (λ (x : PdcpKind). heard x report) (sym k) ∙ h.is in
    let no : Told r.fms r.bitmap ≡ Data h.sn h.body = sym told ∙ data' in
    absurd cc

among-stream : (bits : ℕ) (f : Pdcp) (said : CountsCome) (stream : List Next) (pdus : List (List ℕ))
    → f.sender.kind ≡ AmKind bits → map (λ (n : Next). n.octets) stream ≡ pdus → AreHeardIn f stream
    → (x : IsFirst bits said pdus) → TellsBegun f x.report
among-stream bits f said [] pdus k e h x = let no : [] ≡ x.report ∷ x.rest = e ∙ x.is in absurd cc
among-stream bits f said (n ∷ ns) pdus k e h x =
    let both : n.octets ∷ map (λ (n : Next). n.octets) ns ≡ x.report ∷ x.rest = e ∙ x.is in
    let same : n.octets ≡ x.report = cc in
    begun-told bits f said x.report n.count k x.read
    (subst (λ (octets : List ℕ). IsHeardAs f octets n.count) same h.0)

pub reports_are_heard_so : ReportsAreHeardSo
reports_are_heard_so there back one two p sent number kind k a b h q s says e fms bitmap is =
    let f = pdcp back in
    let sender : f.sender ≡ two.pdcp.tx = b.sender_is in
    let kind' : f.sender.kind ≡ AmKind sent.bits = ap (λ (x : Sending). x.kind) sender ∙ k.sending in
    let x : IsFirst sent.bits sent.said p.offered =
    first-is sent.bits sent.said s.given p.offered p.came sent.report number s.pdus s.report e in
    let t : TellsBegun f x.report =
    among-stream sent.bits f sent.said (pdcp there).stream p.offered kind' (a.stream_is ∙ sym q) h.going x in
    let same : sent.said.next ≡ t.tells_begun.from =
    least-one t.begun f.first sent.said.next t.tells_begun.from
    (says x.report (ap (λ l. slice_get l 0) x.is) t) t.tells_begun.expected in
    let w : IsWithin two.pdcp.tx.base sent.bits sent.said.next =
    subst (λ (n : ℕ). IsWithin two.pdcp.tx.base sent.bits n) (sym same)
    (flow-within sent.bits f two.pdcp.tx x.report t kind kind' sender) in
    windows_are_read two sent kind k (record { from = w.low; to = w.high }) fms bitmap is
