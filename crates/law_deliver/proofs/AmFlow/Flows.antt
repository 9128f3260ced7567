-- In each direction the pair of bearers goes on as a flow.
use Rattle.std.proofs.Common.{◌≡◌, ℕ, zero, suc, false, List, [], ◌∷◌, ◌++◌, map, length, Option, Some, None, Ok}
use Rattle.std.proofs.Common.{slice_get, slice_range, slice_index_or, refl, ap, sym, subst, ◌∙◌}
use Rattle.std.specs.List.{AllByRecursion}
use Rattle.l2_types.specs.declared.config.AmTxConfig.{AmTxConfig}
use Rattle.l2_types.specs.declared.AmRxConfig.{AmRxConfig}
use Rattle.rlc_pdu.specs.Pdus.{AmdPdu, Payload, Status as Control}
use Rattle.rlc_pdu.specs.Reading.{am_at}
use Rattle.rlc_pdu.specs.declared.Landed.TheVariants.{Clash}
use Rattle.rlc_am_rx.specs.Machine.{landed}
use Rattle.law_rlc.specs.AmSender.Octets.{segment_of}
use Rattle.law_rlc.specs.AmPair.Flow.{Copy, Report, Flow, DataGoes as LetsDataGo, StatusGoes as LetsStatusGo}
use Rattle.law_rlc.specs.AmPair.Flow.{Passes as TtiPasses, sender, receiver, except, older as older_reports}
use Rattle.law_rlc.specs.AmPair.Flow.{goes as flow_goes, am_rlc_outset}
use Rattle.law_rlc.specs.AmPair.Given.{IsYoung}
use Rattle.law_rlc.specs.AmPair.Statuses.{IsReadRight, reduced}
use Rattle.law_rlc.proofs.AmPair.Reading.{read_as, stretch-read}
use Rattle.law_rlc.proofs.AmPair.Sound.{IsTrueCopy, IsSound}
use Rattle.law_rlc.proofs.AmPair.Laws.{sound, reads-each-number}
use Rattle.law_rlc.proofs.AmArrival.Coming.{never_clashes}
use Rattle.bearer.specs.Acknowledged.State.{State}
use Rattle.law_bearer.specs.AnyBearer.Acknowledged.{status_heard, data_heard}
use Rattle.law_deliver.specs.AmFlow.Pair.{BearerEnd, Pair, Deed, Calls, DataComes, StatusComes, DataGoes}
use Rattle.law_deliver.specs.AmFlow.Pair.{StatusGoes, Step, Near, Far, Passes, arrives, data_comes, status_comes, does}
use Rattle.law_deliver.specs.AmFlow.Pair.{older, passed, happens, goes, am_pair_outset, begins, IsDone}
use Rattle.law_deliver.specs.AmFlow.Pair.{IsGiven}
use Rattle.law_deliver.specs.AmFlow.Pair.{AreGiven}
use Rattle.law_deliver.specs.AmFlow.Flows.{IsFlow, HasFlow, BeginsLife, HasFlows}
use Rattle.law_deliver.proofs.AmFlow.Standing.{Stands, Goes, given_more, goes_more, stays, steps_once}
use Rattle.law_deliver.proofs.AmFlow.Sending.{calls_send, data_sends, status_sends}
use Rattle.law_deliver.proofs.AmFlow.Hearing.{calls_hear, data_hears, status_hears}

-- ---- a flow that stands at both ends

pub stands_as : (e o : BearerEnd) (f : Flow) → IsFlow e o f → Stands e.bearer.tx o.bearer.rx e.copies o.reports e.busy f
stands_as e o f h = record {
  sender_is = h.sender_is;
  receiver_is = h.receiver_is;
  copies_are = h.copies_are;
  reports_are = h.reports_are;
  busy_is = h.busy_is;
}

pub is_flow : (e o : BearerEnd) (f : Flow) → Stands e.bearer.tx o.bearer.rx e.copies o.reports e.busy f → IsFlow e o f
is_flow e o f h = record {
  sender_is = h.sender_is;
  receiver_is = h.receiver_is;
  copies_are = h.copies_are;
  reports_are = h.reports_are;
  busy_is = h.busy_is;
}

-- steps more
brings : (a : AmTxConfig) (b : AmRxConfig) (e o d p : BearerEnd) (m : HasFlow a b e o)
    → Goes (flow_goes m.steps (am_rlc_outset a b)) d.bearer.tx p.bearer.rx d.copies p.reports d.busy → HasFlow a b d p
brings a b e o d p m n = record {
  steps = m.steps ++ n.steps;
  given = given_more (am_rlc_outset a b) m.steps n.steps m.given n.given;
  is = subst (IsFlow d p) (sym (goes_more (am_rlc_outset a b) m.steps n.steps))
      (is_flow d p (flow_goes n.steps (flow_goes m.steps (am_rlc_outset a b))) n.stands);
}

-- what it has come to
abbrev pub reached : (a : AmTxConfig) (b : AmRxConfig) (e o : BearerEnd) → HasFlow a b e o → Flow
reached a b e o m = flow_goes m.steps (am_rlc_outset a b)

stands_so : (a : AmTxConfig) (b : AmRxConfig) (e o : BearerEnd) (m : HasFlow a b e o)
    → Stands e.bearer.tx o.bearer.rx e.copies o.reports e.busy (reached a b e o m)
stands_so a b e o m = stands_as e o (reached a b e o m) m.is

-- ---- what is under way is read as what it is

pub all_at : {A : Type 0} (P : A → Type 0) (xs : List A) (k : ℕ) (x : A) → AllByRecursion P xs
    → slice_get xs k ≡ Some x → P x
all_at P [] k x h e = let no : None ≡ Some x = e in absurd cc
all_at P (y ∷ ys) zero x h e = let same : Some y ≡ Some x = e in let is : y ≡ x = cc in subst P is h.0
all_at P (y ∷ ys) (suc k) x h e = all_at P ys k x h.1 e

pub record ReadsData (f : Flow) (k : ℕ) (c : Copy) : Type 0 where
  pub at : slice_get f.copies k ≡ Some c
  pub pdu : AmdPdu
  pub read : am_at c.octets ≡ Ok (Payload pdu)
  pub clashes : landed (receiver f).state pdu ≡ Clash → ⊥

pub data_read : (a : AmTxConfig) (b : AmRxConfig) (e o : BearerEnd) (m : HasFlow a b e o) (k : ℕ) (c : Copy)
    → slice_get e.copies k ≡ Some c → ReadsData (reached a b e o m) k c
data_read a b e o m k c q =
    let f = reached a b e o m in
    let h : IsSound f = sound a b m.steps m.given in
    let here : slice_get f.copies k ≡ Some c = ap (λ (l : List Copy). slice_get l k) m.is.copies_are ∙ q in
    let t : IsTrueCopy (sender f).past.sent c = all_at (IsTrueCopy (sender f).past.sent) f.copies k c h.copies here in
    let ps = slice_index_or (sender f).past.sent c.number [] in
    let pdu = read_as c.number t.poll (segment_of t.from t.to (length ps)) (slice_range ps t.from t.to) in
    let read : am_at c.octets ≡ Ok (Payload pdu) =
    ap am_at t.is ∙ stretch-read c.number t.poll ps t.from t.to (h.aired c.number t.known) t.some t.within in
    record { at = here; pdu = pdu; read = read; clashes = never_clashes f c pdu h t read }

pub record ReadsStatus (f : Flow) (k : ℕ) (r : Report) : Type 0 where
  pub at : slice_get f.reports k ≡ Some r
  pub read : am_at r.octets ≡ Ok (Control (reduced r))

pub status_read : (a : AmTxConfig) (b : AmRxConfig) (e o : BearerEnd) (m : HasFlow a b e o) (k : ℕ) (r : Report)
    → slice_get o.reports k ≡ Some r → ReadsStatus (reached a b e o m) k r
status_read a b e o m k r q =
    let f = reached a b e o m in
    let here : slice_get f.reports k ≡ Some r = ap (λ (l : List Report). slice_get l k) m.is.reports_are ∙ q in
    let right : IsReadRight (sender f).state r =
    all_at (IsReadRight (sender f).state) f.reports k r (reads-each-number a b m.steps m.given) here in
    record { at = here; read = right.reads }

-- ---- at the end that sends

sends_data : (a c : AmTxConfig) (b d : AmRxConfig) (e o : BearerEnd) (k : ℕ) → HasFlow a b e o → HasFlow c d o e
    → (x : Option Copy) → slice_get o.copies k ≡ x → HasFlow a b (data_comes e x) o
sends_data a c b d e o k m n None q = m
sends_data a c b d e o k m n (Some y) q =
    let r = data_read c d o e n k y q in
    brings a b e o (arrives e y.octets) o m
    (data_sends e y.octets (reached a b e o m) o.bearer.rx o.reports (ap status_heard r.read)
    (stands_so a b e o m))

sends_status : (a : AmTxConfig) (b : AmRxConfig) (e o : BearerEnd) (k : ℕ) → HasFlow a b e o → (x : Option Report)
    → slice_get o.reports k ≡ x → HasFlow a b (status_comes e x) o
sends_status a b e o k m None q = m
sends_status a b e o k m (Some s) q =
    let r = status_read a b e o m k s q in
    brings a b e o (arrives e s.octets) o m
    (status_sends e (reached a b e o m) k s (reduced s) o.bearer.rx o.reports r.at r.read (stands_so a b e o m))

sends_on : (a c : AmTxConfig) (b d : AmRxConfig) (e o : BearerEnd) (x : Deed) → IsDone e x → HasFlow a b e o
    → HasFlow c d o e → HasFlow a b (does o e x) o
sends_on a c b d e o (Calls call) g m n =
    brings a b e o (does o e (Calls call)) o m
    (calls_send e call (reached a b e o m) o.bearer.rx o.reports g (stands_so a b e o m))
sends_on a c b d e o (DataComes k) g m n = sends_data a c b d e o k m n (slice_get o.copies k) refl
sends_on a c b d e o (StatusComes k) g m n = sends_status a b e o k m (slice_get o.reports k) refl
sends_on a c b d e o (DataGoes k) g m n =
    let f = reached a b e o m in
    let h = stands_so a b e o m in
    brings a b e o (does o e (DataGoes k)) o m
    (steps_once f (LetsDataGo k) e.bearer.tx o.bearer.rx (except k e.copies) o.reports e.busy tt (record {
      sender_is = h.sender_is;
      receiver_is = h.receiver_is;
      copies_are = ap (except k) h.copies_are;
      reports_are = h.reports_are;
      busy_is = h.busy_is;
    }))
sends_on a c b d e o (StatusGoes k) g m n =
    brings a b e o (does o e (StatusGoes k)) o m
    (stays (reached a b e o m) e.bearer.tx o.bearer.rx e.copies o.reports e.busy (stands_so a b e o m))

-- ---- at the end that hears

hears_data : (c : AmTxConfig) (d : AmRxConfig) (e o : BearerEnd) (k : ℕ) → HasFlow c d o e → (x : Option Copy)
    → slice_get o.copies k ≡ x → HasFlow c d o (data_comes e x)
hears_data c d e o k n None q = n
hears_data c d e o k n (Some y) q =
    let r = data_read c d o e n k y q in
    brings c d o e o (arrives e y.octets) n
    (data_hears e (reached c d o e n) k y r.pdu o.bearer.tx o.copies o.busy r.at r.read (stands_so c d o e n))

hears_status : (a c : AmTxConfig) (b d : AmRxConfig) (e o : BearerEnd) (k : ℕ) → HasFlow a b e o → HasFlow c d o e
    → (x : Option Report) → slice_get o.reports k ≡ x → HasFlow c d o (status_comes e x)
hears_status a c b d e o k m n None q = n
hears_status a c b d e o k m n (Some s) q =
    let r = status_read a b e o m k s q in
    brings c d o e o (arrives e s.octets) n
    (status_hears e s.octets (reached c d o e n) o.bearer.tx o.copies o.busy (ap data_heard r.read)
    (stands_so c d o e n))

hears_on : (a c : AmTxConfig) (b d : AmRxConfig) (e o : BearerEnd) (x : Deed) → IsDone e x → HasFlow a b e o
    → HasFlow c d o e → HasFlow c d o (does o e x)
hears_on a c b d e o (Calls call) g m n =
    brings c d o e o (does o e (Calls call)) n
    (calls_hear e call (reached c d o e n) o.bearer.tx o.copies o.busy g (stands_so c d o e n))
hears_on a c b d e o (DataComes k) g m n = hears_data c d e o k n (slice_get o.copies k) refl
hears_on a c b d e o (StatusComes k) g m n = hears_status a c b d e o k m n (slice_get o.reports k) refl
hears_on a c b d e o (DataGoes k) g m n =
    brings c d o e o (does o e (DataGoes k)) n
    (stays (reached c d o e n) o.bearer.tx e.bearer.rx o.copies e.reports o.busy (stands_so c d o e n))
hears_on a c b d e o (StatusGoes k) g m n =
    let f = reached c d o e n in
    let h = stands_so c d o e n in
    brings c d o e o (does o e (StatusGoes k)) n
    (steps_once f (LetsStatusGo k) o.bearer.tx e.bearer.rx o.copies (except k e.reports) o.busy tt (record {
      sender_is = h.sender_is;
      receiver_is = h.receiver_is;
      copies_are = h.copies_are;
      reports_are = ap (except k) h.reports_are;
      busy_is = h.busy_is;
    }))

-- ---- a TTI passes

pub ages : (rs : List Report) → older_reports rs ≡ map older rs
ages [] = refl
ages (r ∷ rs) = ap (λ (l : List Report). older r ∷ l) (ages rs)

passes_on : (a : AmTxConfig) (b : AmRxConfig) (e o : BearerEnd) → AllByRecursion IsYoung o.reports → HasFlow a b e o
    → HasFlow a b (passed e) (passed o)
passes_on a b e o young m =
    let f = reached a b e o m in
    let h = stands_so a b e o m in
    brings a b e o (passed e) (passed o) m
    (steps_once f TtiPasses e.bearer.tx o.bearer.rx e.copies (map older o.reports) false
    (subst (λ (l : List Report). AllByRecursion IsYoung l) (sym h.reports_are) young)
    (record {
      sender_is = h.sender_is;
      receiver_is = h.receiver_is;
      copies_are = h.copies_are;
      reports_are = ages f.reports ∙ ap (map older) h.reports_are;
      busy_is = refl;
    }))

-- ---- any steps

happens_on : (near far : State) (p : Pair) (s : Step) → IsGiven p s → HasFlows near far p
    → HasFlows near far (happens p s)
happens_on near far p (Near x) g h = record {
  there = sends_on near.tx_config far.tx_config far.rx_config near.rx_config p.near p.far x g h.there h.back;
  back = hears_on near.tx_config far.tx_config far.rx_config near.rx_config p.near p.far x g h.there h.back;
}
happens_on near far p (Far x) g h = record {
  there = hears_on far.tx_config near.tx_config near.rx_config far.rx_config p.far p.near x g h.back h.there;
  back = sends_on far.tx_config near.tx_config near.rx_config far.rx_config p.far p.near x g h.back h.there;
}
happens_on near far p Passes g h = record {
  there = passes_on near.tx_config far.rx_config p.near p.far g.1 h.there;
  back = passes_on far.tx_config near.rx_config p.far p.near g.0 h.back;
}

goes_on : (near far : State) (steps : List Step) (p : Pair) → AreGiven p steps → HasFlows near far p
    → HasFlows near far (goes steps p)
goes_on near far [] p g h = h
goes_on near far (s ∷ ss) p g h = goes_on near far ss (happens p s) g.1 (happens_on near far p s g.0 h)

begins_so : (near far : State) → BeginsLife near → BeginsLife far
    → HasFlow near.tx_config far.rx_config (begins near) (begins far)
begins_so near far h k =
    record {
      steps = [];
      given = tt;
      is = record {
        sender_is = sym h.sends;
        receiver_is = sym k.hears;
        copies_are = refl;
        reports_are = refl;
        busy_is = refl;
      };
    }

pub bearers_are_flows : (near far : State) (steps : List Step) → BeginsLife near → BeginsLife far
    → AreGiven (am_pair_outset near far) steps → HasFlows near far (goes steps (am_pair_outset near far))
bearers_are_flows near far steps h k g =
    goes_on near far steps (am_pair_outset near far) g
    (record { there = begins_so near far h k; back = begins_so far near k h })
