-- RLC takes SDUs of a signalling bearer: their PDUs, with the next COUNTs.
use Rattle.std.proofs.Common.{◌≡◌, ◌≤◌, ℕ, zero, suc, ◌+◌, Bool, true, false, List, [], ◌∷◌, ◌++◌, map, length, take}
use Rattle.std.proofs.Common.{Option, append-nil, append_assoc, refl, ap, sym, subst, ◌∙◌, arith}
use Rattle.pdcp_pdu.specs.declared.PdcpKind.{PdcpKind}
use Rattle.pdcp_pdu.specs.declared.PdcpKind.TheVariants.{Srb}
use Rattle.pdcp_sec.specs.Protection.{Protection}
use Rattle.pdcp_tx_store.specs.Waiting.{Waits}
use Rattle.pdcp_tx.specs.Pdus.{pdu}
use Rattle.pdcp_tx.specs.State.{State as Sending, Offer, written, offers, new_offers, took}
use Rattle.law_pdcp.specs.OneEnd.Lives.{queue}
use Rattle.bearer.specs.Acknowledged.State.{State}
use Rattle.bearer.specs.Acknowledged.Taking.{writes_status, data_size}
use Rattle.law_bearer.specs.AnyBearer.Acknowledged.{offers_in, has_more_behind}
use Rattle.law_bearer.specs.AnyBearer.Calls.{Take}
use Rattle.law_bearer.specs.AnyBearer.Stream.{pdu_of}
use Rattle.law_rlc.specs.AmReceiver.Run.{Write}
use Rattle.law_rlc.specs.AmSender.Run.{Take as Taking}
use Rattle.law_bearer.specs.AmBearer.Deeds.{Deed, Feeds, Sends as SendsIt, Receives, does, does_all}
use Rattle.law_bearer.specs.AmBearer.Calls.{only_if}
use Rattle.law_bearer.proofs.AmBearer.Taking.{so_many, TakesSo, takes_so}
use Rattle.law_bearer.proofs.AmBearer.Ups.{does_then}
use Rattle.law_deliver.specs.AmFlow.Pair.{called}
use Rattle.law_pdcp.proofs.SrbPair.Sending.{Sends, offers_by, with_new, TakesOne, takes_one, new_sends}
use Rattle.law_deliver.proofs.SrbDelivery.Quiet.{calls_as}

-- the PDUs of some SDUs, with the COUNTs from one on
abbrev pub pdus_from : Protection → ℕ → List (List ℕ) → List (List ℕ)
pdus_from p count [] = []
pdus_from p count (sdu ∷ sdus) = pdu Srb p count sdu ∷ pdus_from p (count + 1) sdus

pub pdus_both : (p : Protection) (count : ℕ) (xs ys : List (List ℕ))
    → pdus_from p count (xs ++ ys) ≡ pdus_from p count xs ++ pdus_from p (count + length xs) ys
pdus_both p count [] ys = let same : count ≡ count + 0 = omega arith in ap (λ n. pdus_from p n ys) same
pdus_both p count (x ∷ xs) ys =
    let same : count + 1 + length xs ≡ count + suc (length xs) = omega arith in
    ap (λ l. pdu Srb p count x ∷ l) (pdus_both p (count + 1) xs ys
    ∙ ap (λ n. pdus_from p (count + 1) xs ++ pdus_from p n ys) same)

-- ---- some calls of PDCP's sender

abbrev taken_times : ℕ → Sending → Sending
taken_times zero s = s
taken_times (suc n) s = taken_times n (took s)

-- so many SDUs are taken, in their order
record TakesMany (first : ℕ) (p : Protection) (sdus : List (List ℕ)) (n : ℕ) (s : Sending) : Type 0 where
  news : List (List ℕ)
  sends : Sends first p (sdus ++ news) (taken_times n s)
  queued : queue s ≡ news ++ queue (taken_times n s)
  first_are : news ≡ map (λ (w : Waits). w.sdu) (take n s.waiting)

none_taken : (first : ℕ) (p : Protection) (sdus : List (List ℕ)) (s : Sending) → Sends first p sdus s
    → TakesMany first p sdus zero s
none_taken first p sdus s h = record {
  news = [];
  sends = subst (λ l. Sends first p l s) (sym (append-nil sdus)) h;
  queued = refl;
  first_are = refl;
}

abbrev sdus_of : List Waits → List (List ℕ)
sdus_of ws = map (λ (w : Waits). w.sdu) ws

more_taken : (first : ℕ) (p : Protection) (sdus : List (List ℕ)) (n : ℕ) (s : Sending) (w : Waits) (ws : List Waits)
    → s.waiting ≡ w ∷ ws → TakesOne p s w ws
    → TakesMany first p (sdus ++ w.sdu ∷ []) n (with_new ws s) → TakesMany first p sdus (suc n) s
more_taken first p sdus n s w ws q t m =
    let rest : Sending = taken_times n (with_new ws s) in
    let left : taken_times (suc n) s ≡ rest = ap (taken_times n) t.left in
    record {
      news = w.sdu ∷ m.news;
      sends = subst (Sends first p (sdus ++ (w.sdu ∷ m.news))) (sym left)
          (subst (λ l. Sends first p l rest) (append_assoc sdus (w.sdu ∷ []) m.news) m.sends);
      queued = ap sdus_of q ∙ ap (λ l. w.sdu ∷ l) m.queued
          ∙ ap (λ (x : Sending). (w.sdu ∷ m.news) ++ queue x) (sym left);
      first_are = ap (λ l. w.sdu ∷ l) m.first_are ∙ ap (λ (l : List Waits). sdus_of (take (suc n) l)) (sym q);
    }

takes_many : (first : ℕ) (p : Protection) (n : ℕ) (sdus : List (List ℕ)) (s : Sending) (ws : List Waits)
    → s.waiting ≡ ws → n ≤ length ws → Sends first p sdus s → TakesMany first p sdus n s
takes_many first p zero sdus s ws q few h = none_taken first p sdus s h
takes_many first p (suc n) sdus s [] q few h = absurd (omega (arith, few))
takes_many first p (suc n) sdus s (w ∷ ws) q few h =
    more_taken first p sdus n s w ws q (takes_one first p sdus s w ws h q)
    (takes_many first p n (sdus ++ w.sdu ∷ []) (with_new ws s) ws refl (omega (arith, few))
    (new_sends first p sdus s w ws h q))

-- ---- their PDUs

offered_pdus : (k : PdcpKind) (r p : Protection) → k ≡ Srb → r ≡ p → (n count : ℕ) (ws : List Waits)
    → map (λ (o : Offer). (written k r o.count o.text).octets) (take n (new_offers count ws))
    ≡ pdus_from p count (sdus_of (take n ws))
offered_pdus k r p e q zero count ws = refl
offered_pdus k r p e q (suc n) count [] = refl
offered_pdus k r p e q (suc n) count (w ∷ ws) =
    ap (λ (x : PdcpKind). pdu x r count w.sdu
    ∷ map (λ (o : Offer). (written k r o.count o.text).octets) (take n (new_offers (count + 1) ws))) e
    ∙ ap (λ (x : Protection). pdu Srb x count w.sdu
    ∷ map (λ (o : Offer). (written k r o.count o.text).octets) (take n (new_offers (count + 1) ws))) q
    ∙ ap (λ l. pdu Srb p count w.sdu ∷ l) (offered_pdus k r p e q n (count + 1) ws)

-- ---- the deeds of a take

feeds_pdcp : (n : ℕ) (b : State) → (does_all (so_many n) b).pdcp.tx ≡ taken_times n b.pdcp.tx
feeds_pdcp zero b = refl
feeds_pdcp (suc n) b = feeds_pdcp n (does b Feeds)

writes_pdcp : (due : Bool) (b : State) → (does_all (only_if due (Receives Write)) b).pdcp ≡ b.pdcp
writes_pdcp true b = refl
writes_pdcp false b = refl

taken_tx : (b : State) (share : ℕ) (held : Option ℕ) (n : ℕ) → map (λ pdu. Feeds) (offers_in b share held) ≡ so_many n
    → (called b (Take share held)).pdcp.tx ≡ taken_times n b.pdcp.tx
taken_tx b share held n q =
    let status : List Deed = only_if (writes_status b.rx share) (Receives Write) in
    let fill : List Deed = map (λ pdu. Feeds) (offers_in b share held) in
    let last : Deed = SendsIt (Taking (data_size b share) held (has_more_behind b share held)) in
    let d : State = does_all status b in
    ap (λ (x : State). x.pdcp.tx) (calls_as b (Take share held) tt)
    ∙ ap (λ (x : State). x.pdcp.tx) (does_then (status ++ fill) (last ∷ []) b)
    ∙ ap (λ (x : State). x.pdcp.tx) (does_then status fill b)
    ∙ ap (λ (l : List Deed). (does_all l d).pdcp.tx) q
    ∙ feeds_pdcp n d
    ∙ ap (λ e. taken_times n e.tx) (writes_pdcp (writes_status b.rx share) b)

pub record TakesOn (first : ℕ) (p : Protection) (sdus : List (List ℕ)) (b : State) (share : ℕ) (held : Option ℕ) :
    Type 0 where
  pub news : List (List ℕ)
  pub sends : Sends first p (sdus ++ news) (called b (Take share held)).pdcp.tx
  pub queued : queue b.pdcp.tx ≡ news ++ queue (called b (Take share held)).pdcp.tx
  pub offers_are : offers_in b share held ≡ pdus_from p (first + length sdus) news

length_new : (count : ℕ) (ws : List Waits) → length (new_offers count ws) ≡ length ws
length_new count [] = refl
length_new count (w ∷ ws) = ap suc (length_new (count + 1) ws)

pub takes_on : (first : ℕ) (p : Protection) (sdus : List (List ℕ)) (b : State) (share : ℕ) (held : Option ℕ)
    → Sends first p sdus b.pdcp.tx → TakesOn first p sdus b share held
takes_on first p sdus b share held h =
    let s = b.pdcp.tx in
    let t : TakesSo b share held = takes_so b share held in
    let all : offers s ≡ new_offers s.next s.waiting = offers_by first p sdus s h in
    let few : t.n ≤ length s.waiting = omega (arith, t.few, ap length all, length_new s.next s.waiting) in
    let m : TakesMany first p sdus t.n s = takes_many first p t.n sdus s s.waiting refl few h in
    let left : (called b (Take share held)).pdcp.tx ≡ taken_times t.n s = taken_tx b share held t.n t.feeds_is in
    record {
      news = m.news;
      sends = subst (Sends first p (sdus ++ m.news)) (sym left) m.sends;
      queued = m.queued ∙ ap (λ (x : Sending). m.news ++ queue x) (sym left);
      offers_are = ap (map (pdu_of s)) (t.taken_is ∙ ap (take t.n) all)
          ∙ offered_pdus s.kind s.protection p h.srb h.key t.n s.next s.waiting
          ∙ ap (λ n. pdus_from p n (sdus_of (take t.n s.waiting))) h.count
          ∙ ap (pdus_from p (first + length sdus)) (sym m.first_are);
    }
