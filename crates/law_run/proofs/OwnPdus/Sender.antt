-- RLC's sender writes octets of its own numbers, whatever STATUS comes to it.
use Rattle.std.proofs.Common.{◌≡◌, ◌<◌, ◌≤◌, inl, inr, ℕ, zero, suc, ◌+◌, ◌%◌, Bool, true, false, ◌==◌, ◌-◌, List}
use Rattle.std.proofs.Common.{[], ◌∷◌, ◌++◌, map, length, take, slice_range, slice_index_or, if◌then◌else◌, Option}
use Rattle.std.proofs.Common.{Some, None, Result, Ok, refl, ap, sym, subst, ◌∙◌, arith, length-append}
use Rattle.std.specs.List.{AllByRecursion, sum}
use Rattle.std.proofs.lemmas.Bool.Decides.{nat_tests}
use Rattle.std.proofs.lemmas.Bool.{cases_lt}
use Rattle.std.proofs.lemmas.List.{get_or_append_left, get_or_push, length-map}
use Rattle.l2_types.specs.declared.config.AmTxConfig.{AmTxConfig}
use Rattle.rlc_pdu.specs.declared.fault.RlcRefusal.{RlcRefusal}
use Rattle.rlc_pdu.specs.declared.outcome.Taken.{Taken}
use Rattle.rlc_pdu.specs.declared.outcome.Taken.TheVariants as taken
use Rattle.rlc_pdu.specs.declared.pdu.Segment.{Segment}
use Rattle.rlc_pdu.specs.Pdus.{AmdPdu, AcknowledgedPdu, Payload, StatusPdu, AreLens}
use Rattle.rlc_pdu.specs.Reading.{am_at}
use Rattle.rlc_queue.proofs.Lens.{within as fits-size}
use Rattle.rlc_am_tx_window.specs.Window.{next}
use Rattle.rlc_am_rx_window.specs.Piece.{piece_of, so_of, is_last, octets_in}
use Rattle.rlc_am_tx.specs.declared.turn.Turn.{Turn}
use Rattle.rlc_am_tx.specs.declared.turn.Turn.TheVariants as turns
use Rattle.rlc_am_tx.specs.Machine.{State, start, turn, answer, number_again, new_slot}
use Rattle.law_rlc.specs.AmSender.Run.{Call, Offer, Take, Status, Tick, Expire, Settle, Confirm, World, after}
use Rattle.law_rlc.specs.AmSender.Run.{run_am_sender, begun}
use Rattle.law_rlc.specs.AmSender.Acked.{acked_after}
use Rattle.law_rlc.specs.AmSender.Octets.{Place, Octets, nothing_sent, written, segment_of, sent_with, new_count}
use Rattle.law_rlc.specs.AmSender.Octets.{octets_by, octets_after, IsNew, again_octets, IsAgain, IsNone, IsWritten}
use Rattle.law_rlc.specs.AmSender.Octets.{HasOctets}
use Rattle.law_rlc.specs.AmSender.Polled.{poll_of}
use Rattle.law_rlc.proofs.AmSender.Keys.{key}
use Rattle.law_rlc.proofs.AmSender.Least.{least}
use Rattle.law_rlc.proofs.AmSender.Pdus.{IsFace, face-length, face-some}
use Rattle.law_rlc.proofs.AmSender.Stretches.{range-all}
use Rattle.law_rlc.proofs.AmSender.Writes.{Keeps, new-face, new-able, run-keeps, start-keeps, writes}
use Rattle.law_rlc.specs.AmReceiver.Stream.{IsPart}
use Rattle.law_rlc.specs.AmPair.Fields.{cells_of}
use Rattle.law_rlc.proofs.AmPair.Parts.{cells-length, stretch-part}
use Rattle.law_rlc.proofs.AmPair.Reading.{IsAired, read_as, stretch-read}
use Rattle.law_rlc.proofs.AmPair.Runs.{called, same-state, offered-more}
use Rattle.law_rlc.proofs.AmPair.Sound.{AllAired}
use Rattle.law_rlc.specs.AmArrival.Arrival.{written_in}
use Rattle.law_rlc.proofs.AmArrival.Coming.{cells_are, part_end}
use Rattle.law_bearer.specs.AnyBearer.Acknowledged.{IsOfSender}
use Rattle.law_bearer.specs.AnyBearer.Sending.{sends_on}
use Rattle.law_deliver.specs.AmFlow.Pair.{HasOctet}
use Rattle.law_words.specs.Arrivals.{AccountEntry, Account, account}
use Rattle.law_words.specs.Passing.{Writes, Told, with_field, last_with, written_as}
use Rattle.promises.specs.Given.{entries_passed}
use Rattle.promises.specs.OwnPdus.{IsOwnData, IsOwnPdu, AreOwn}

-- ---- a sender with what it has sent

abbrev pub ran : AmTxConfig → List Call → World Octets
ran config calls = run_am_sender octets_after calls (begun config nothing_sent)

-- it has come to a state by calls, and the fields of its numbers are these
pub record Owns (fields : List ℕ) (s : State) : Type 0 where
  pub config : AmTxConfig
  pub calls : List Call
  pub offered : AllByRecursion HasOctets calls
  pub state_is : (ran config calls).state ≡ s
  pub aired : AllAired (ran config calls).past.sent
  pub fields_are : fields ≡ map length (ran config calls).past.sent

pub start_owns : (config : AmTxConfig) → Owns [] (start config)
start_owns config = record {
  config = config;
  calls = [];
  offered = tt;
  state_is = refl;
  aired = λ n lt. absurd (omega (arith, lt));
  fields_are = refl;
}

ran_more : (config : AmTxConfig) (calls : List Call) (c : Call)
    → ran config (calls ++ c ∷ []) ≡ called octets_after (ran config calls) c
ran_more config calls c = by calls (begun config nothing_sent)
  where
    by : (cs : List Call) (w : World Octets)
        → run_am_sender octets_after (cs ++ c ∷ []) w ≡ called octets_after (run_am_sender octets_after cs w) c
    by [] w = refl
    by (d ∷ ds) w = by ds (called octets_after w d)

-- a call more
owns_more : (fields now : List ℕ) (s : State) (c : Call) (h : Owns fields s) → HasOctets c
    → AllAired (octets_after (ran h.config h.calls).state c (ran h.config h.calls).past).sent
    → now ≡ map length (octets_after (ran h.config h.calls).state c (ran h.config h.calls).past).sent
    → Owns now (after s c)
owns_more fields now s c h some aired are =
    let more = ran_more h.config h.calls c in
    record {
      config = h.config;
      calls = h.calls ++ c ∷ [];
      offered = offered-more h.calls c h.offered some;
      state_is = ap (λ (w : World Octets). w.state) more ∙ ap (λ (x : State). after x c) h.state_is;
      aired = subst (λ (w : World Octets). AllAired w.past.sent) (sym more) aired;
      fields_are = are ∙ sym (ap (λ (w : World Octets). map length w.past.sent) more);
    }

-- one that sends nothing new
stays_own : (fields : List ℕ) (s : State) (c : Call) → HasOctets c
    → ((x : State) (o : Octets) → (octets_after x c o).sent ≡ o.sent) → Owns fields s → Owns fields (after s c)
stays_own fields s c some same h =
    let w = ran h.config h.calls in
    owns_more fields fields s c h some (subst AllAired (sym (same w.state w.past)) h.aired)
    (h.fields_are ∙ ap (λ (sent : List (List Place)). map length sent) (sym (same w.state w.past)))

pub status_owns : (fields : List ℕ) (s : State) (pdu : StatusPdu) → Owns fields s → Owns fields (after s (Status pdu))
status_owns fields s pdu h = stays_own fields s (Status pdu) tt (λ x o. refl) h

own_call : (fields : List ℕ) (s : State) (c : Call) → IsOfSender c → Owns fields s → Owns fields (after s c)
own_call fields s (Offer sdu) own h = absurd own
own_call fields s (Take size held more) own h = absurd own
own_call fields s (Status pdu) own h = absurd own
own_call fields s Tick own h = stays_own fields s Tick tt (λ x o. refl) h
own_call fields s (Expire more) own h = stays_own fields s (Expire more) tt (λ x o. refl) h
own_call fields s (Settle more) own h = stays_own fields s (Settle more) tt (λ x o. refl) h
own_call fields s Confirm own h = stays_own fields s Confirm tt (λ x o. refl) h

pub own_calls : (fields : List ℕ) (cs : List Call) (s : State) → AllByRecursion IsOfSender cs → Owns fields s
    → Owns fields (sends_on cs s)
own_calls fields [] s own h = h
own_calls fields (c ∷ cs) s own h = own_calls fields cs (after s c) own.1 (own_call fields s c own.0 h)

pub offers_own : (fields : List ℕ) (sdus : List (List ℕ)) (s : State) → AllByRecursion HasOctet sdus → Owns fields s
    → Owns fields (sends_on (map (λ sdu. Offer sdu) sdus) s)
offers_own fields [] s some h = h
offers_own fields (sdu ∷ sdus) s some h =
    offers_own fields sdus (after s (Offer sdu)) some.1 (stays_own fields s (Offer sdu) some.0 (λ x o. refl) h)

-- ---- what is read of a stretch

record IsReadAs (number : ℕ) (ps : List Place) (octets : List ℕ) : Type 0 where
  pdu : AmdPdu
  read : am_at octets ≡ Ok (Payload pdu)
  sn : pdu.sn ≡ number % 1024
  part : IsPart (cells_of ps) (piece_of pdu)

reads_stretch : (number : ℕ) (poll : Bool) (ps : List Place) (from to : ℕ) → IsAired ps → from < to → to ≤ length ps
    → IsReadAs number ps (written number poll (segment_of from to (length ps)) (slice_range ps from to))
reads_stretch number poll ps from to aired some within = record {
  pdu = read_as number poll (segment_of from to (length ps)) (slice_range ps from to);
  read = stretch-read number poll ps from to aired some within;
  sn = refl;
  part = stretch-part number poll ps from to aired some within;
}

-- all of it
record IsReadAll (number : ℕ) (ps : List Place) (octets : List ℕ) : Type 0 where
  piece : IsReadAs number ps octets
  all : octets_in piece.pdu.elements ≡ length ps

segment_all : (n : ℕ) → segment_of 0 n n ≡ None
segment_all n = ap (λ (b : Bool). if b then None else Some (record { last = n == n; so = 0 })) (same n)
  where
    same : (n : ℕ) → (n - 0 == n) ≡ true
    same n = grind (arith, nat_tests)

reads_all : (number : ℕ) (poll : Bool) (ps : List Place) → IsAired ps
    → IsReadAll number ps (written number poll None ps)
reads_all number poll ps aired =
    let segment = segment_of 0 (length ps) (length ps) in
    let pdu = read_as number poll segment (slice_range ps 0 (length ps)) in
    let part = stretch-part number poll ps 0 (length ps) aired aired.some (omega arith) in
    let same : written number poll segment (slice_range ps 0 (length ps)) ≡ written number poll None ps =
    ap (λ (s : Option Segment). written number poll s (slice_range ps 0 (length ps))) (segment_all (length ps))
    ∙ ap (λ (qs : List Place). written number poll None qs) (range-all ps (length ps) refl) in
    let whole : pdu.segment ≡ None = segment_all (length ps) in
    let last = part.last (ap (λ (s : Option Segment). is_last s) whole) in
    let so : so_of pdu.segment ≡ 0 = ap so_of whole in
    let c = cells_are pdu in
    let l = cells-length ps in
    record {
      piece = record {
        pdu = pdu;
        read = ap am_at (sym same) ∙ stretch-read number poll ps 0 (length ps) aired aired.some (omega arith);
        sn = refl;
        part = part;
      };
      all = omega (arith, last, so, c, l);
    }

-- ---- what is told of it

size_at : (sent : List (List Place)) (n : ℕ)
    → slice_index_or (map length sent) n 0 ≡ length (slice_index_or sent n [])
size_at [] n = refl
size_at (ps ∷ sent) zero = refl
size_at (ps ∷ sent) (suc n) = size_at sent n

sizes_more : (sent : List (List Place)) (ps : List Place)
    → map length (sent ++ ps ∷ []) ≡ map length sent ++ length ps ∷ []
sizes_more [] ps = refl
sizes_more (x ∷ sent) ps = ap (λ (l : List ℕ). length x ∷ l) (sizes_more sent ps)

aired_more : (sent : List (List Place)) (ps : List Place) → AllAired sent → IsAired ps → AllAired (sent ++ ps ∷ [])
aired_more sent ps a b n lt = let l = length-append sent (ps ∷ []) in elim (cases_lt n (length sent)) [
  | inl old ↦ subst (λ (qs : List Place). IsAired qs) (sym (get_or_append_left sent (ps ∷ []) [] n old)) (a n old)
  | inr new ↦ subst (λ (qs : List Place). IsAired qs) (sym (get_or_push sent ps [] n (omega (arith, l, lt, new)))) b
]

is_new_sn : (sn count : ℕ) → sn ≡ count % 1024 → (sn == count % 1024) ≡ true
is_new_sn sn count e = grind (arith, nat_tests, e)

is_old_sn : (sn count number : ℕ) → sn ≡ number % 1024 → number < count → count ≤ number + 512
    → (sn == count % 1024) ≡ false
is_old_sn sn count number e lt young =
    let no : (sn ≡ count % 1024) → ⊥ = λ same. omega (arith, e, lt, young, same) in
    grind (arith, nat_tests, no)

last_is : (number count sn : ℕ) → sn ≡ number % 1024 → number < count → count ≤ number + 512
    → last_with sn count ≡ number
last_is number count sn e lt young = omega (arith, e, lt, young)

field_by : (b : Bool) (pdu : AmdPdu) (t : Told) → (pdu.sn == length t.fields % 1024) ≡ b
    → (with_field pdu t).fields ≡ (if b then t.fields ++ octets_in pdu.elements ∷ [] else t.fields)
field_by true pdu t e =
    ap (λ (x : Bool). (if x then record t { fields = t.fields ++ octets_in pdu.elements ∷ [] } else t).fields) e
field_by false pdu t e =
    ap (λ (x : Bool). (if x then record t { fields = t.fields ++ octets_in pdu.elements ∷ [] } else t).fields) e

-- entries, and the sender behind them
pub record OwnOn (a : Account) (hs : List AccountEntry) (s : State) : Type 0 where
  pub own : AreOwn a hs
  pub owns : Owns (account hs a).rlc.fields s

pub owns_as : (fields now : List ℕ) (s : State) → now ≡ fields → Owns fields s → Owns now s
owns_as fields now s e h = subst (λ (l : List ℕ). Owns l s) (sym e) h

-- a data PDU is written
data_own : (octets : List ℕ) (pdu : AmdPdu) (a : Account) (s : State) → am_at octets ≡ Ok (Payload pdu)
    → IsOwnData a.rlc pdu → Owns (with_field pdu a.rlc).fields s → OwnOn a (entries_passed (Writes octets ∷ [])) s
data_own octets pdu a s read data' owns = record {
  own = (subst (λ (x : Result AcknowledgedPdu RlcRefusal). IsOwnPdu a.rlc x) (sym read) data', tt);
  owns =
      owns_as (with_field pdu a.rlc).fields (written_as (am_at octets) a.rlc).fields s
      (ap (λ (x : Result AcknowledgedPdu RlcRefusal). (written_as x a.rlc).fields) read) owns;
}

-- ---- `take`

module _ (config : AmTxConfig) (calls : List Call) (offered : AllByRecursion HasOctets calls) (a : Account)
    (aired : AllAired (ran config calls).past.sent) (are : a.rlc.fields ≡ map length (ran config calls).past.sent)
    (size : ℕ) (few : size ≤ 32767) (held : Option ℕ) (more : Bool) where
  abbrev s : State
  s = (ran config calls).state

  abbrev o : Octets
  o = (ran config calls).past

  abbrev taking : Call
  taking = Take size held more

  abbrev owned : Owns a.rlc.fields s
  owned = record {
    config = config;
    calls = calls;
    offered = offered;
    state_is = refl;
    aired = aired;
    fields_are = are;
  }

  keeps : Keeps s o
  keeps = run-keeps calls (begun config nothing_sent) offered (start-keeps config)

  count : length a.rlc.fields ≡ length o.sent
  count = ap (λ (l : List ℕ). length l) are ∙ length-map o.sent length

  -- a number that is sent again is near
  young : length o.sent ≤ number_again s + 512
  young =
      let same = same-state acked_after octets_after calls (begun config (λ n. false)) (begun config nothing_sent) refl
      in
      let w : next s.window ≤ s.window.base + 512 =
      subst (λ (x : State). next x.window ≤ x.window.base + 512) same (least config calls).window in
      let n = keeps.faces.number in
      omega (arith, w, n)

  again_own : (from to : ℕ) (t : Taken) → IsAgain s size from to o t → (octets_after s taking o).sent ≡ o.sent
      → OwnOn a (entries_passed (written_in t)) (after s taking)
  again_own from to t w same =
      let number = number_again s in
      let ps = sent_with o number in
      let octets = again_octets o number from to (poll_of t) in
      let r : IsReadAs number ps octets =
      reads_stretch number (poll_of t) ps from to (aired number w.sent) w.some w.within in
      let pdu = r.pdu in
      let known = w.sent in
      let y = young in
      let n = count in
      let old = is_old_sn pdu.sn (length a.rlc.fields) number r.sn (omega (arith, known, n)) (omega (arith, y, n)) in
      let last = last_is number (length a.rlc.fields) pdu.sn r.sn (omega (arith, known, n)) (omega (arith, y, n)) in
      let end' = part_end ps pdu r.part in
      let all = (aired number w.sent).few in
      let some = r.part.some in
      let c = cells_are pdu in
      let here : slice_index_or a.rlc.fields (last_with pdu.sn (length a.rlc.fields)) 0 ≡ length ps =
      ap (λ (k : ℕ). slice_index_or a.rlc.fields k 0) last ∙ ap (λ (l : List ℕ). slice_index_or l number 0) are
      ∙ size_at o.sent number in
      subst (λ (x : Taken). OwnOn a (entries_passed (written_in x)) (after s taking)) (sym w.is)
      (data_own octets pdu a (after s taking) r.read
      (record {
        some = omega (arith, some, c);
        few = omega (arith, end', all);
        within = λ e. omega (arith, end', here);
      })
      (owns_as a.rlc.fields (with_field pdu a.rlc).fields (after s taking) (field_by false pdu a.rlc old)
      (owns_more a.rlc.fields a.rlc.fields s taking owned tt (subst AllAired (sym same) aired)
      (are ∙ ap (λ (sent : List (List Place)). map length sent) (sym same)))))

  abbrev ps : List Place
  ps = take (new_count s size) o.unsent

  new_aired : turn s size held more ≡ turns.New → IsAired ps
  new_aired e =
      let able = new-able s size held more e in
      let f : IsFace (key (new_slot s size)) ps = new-face s size o.unsent o.sent keeps.faces able in
      let l = face-length (key (new_slot s size)) ps f in
      let w = f.whole in
      let three = able.1 in
      let u = fits-size 2 size s.queue.sdus able.0 (omega (arith, three)) in
      record {
        some = face-some (key (new_slot s size)) ps f;
        few = omega (arith, l, u, few);
        joined = f.joined;
        lens = subst (λ (ls : List ℕ). AreLens ls) f.lens f.written;
        whole = ap (λ (ls : List ℕ). sum ls) (sym f.lens) ∙ omega (arith, w, l);
      }

  new_own : (t : Taken) → turn s size held more ≡ turns.New → IsNew s size o t
      → OwnOn a (entries_passed (written_in t)) (after s taking)
  new_own t e w =
      let is = new_aired e in
      let octets = written (length o.sent) (poll_of t) None ps in
      let r : IsReadAll (length o.sent) ps octets = reads_all (length o.sent) (poll_of t) ps is in
      let pdu = r.piece.pdu in
      let n = count in
      let sn : pdu.sn ≡ length a.rlc.fields % 1024 = r.piece.sn ∙ ap (λ (k : ℕ). k % 1024) (sym n) in
      let new = is_new_sn pdu.sn (length a.rlc.fields) sn in
      let end' = part_end ps pdu r.piece.part in
      let all = is.few in
      let some = r.piece.part.some in
      let c = cells_are pdu in
      let now : (octets_after s taking o).sent ≡ o.sent ++ ps ∷ [] =
      ap (λ (u : Turn). (octets_by u s size o).sent) e in
      subst (λ (x : Taken). OwnOn a (entries_passed (written_in x)) (after s taking)) (sym w.is)
      (data_own octets pdu a (after s taking) r.piece.read
      (record {
        some = omega (arith, some, c);
        few = omega (arith, end', all);
        within = λ other. let no : true ≡ false = sym new ∙ other in absurd cc;
      })
      (owns_as (a.rlc.fields ++ octets_in pdu.elements ∷ []) (with_field pdu a.rlc).fields (after s taking)
      (field_by true pdu a.rlc new)
      (owns_more a.rlc.fields (a.rlc.fields ++ octets_in pdu.elements ∷ []) s taking owned tt
      (subst AllAired (sym now) (aired_more o.sent ps aired is))
      (ap (λ (l : List ℕ). l ++ octets_in pdu.elements ∷ []) are
      ∙ (ap (λ (k : ℕ). map length o.sent ++ k ∷ []) r.all
      ∙ (sym (sizes_more o.sent ps) ∙ ap (λ (sent : List (List Place)). map length sent) (sym now)))))))

  none_own : (t : Taken) → IsNone t → (octets_after s taking o).sent ≡ o.sent
      → OwnOn a (entries_passed (written_in t)) (after s taking)
  none_own t none same = by t none
    where
      here : Owns a.rlc.fields (after s taking)
      here = owns_more a.rlc.fields a.rlc.fields s taking owned tt (subst AllAired (sym same) aired)
          (are ∙ ap (λ (sent : List (List Place)). map length sent) (sym same))

      by : (t : Taken) → IsNone t → OwnOn a (entries_passed (written_in t)) (after s taking)
      by (taken.Piece number fresh polled octets) n = absurd n
      by taken.Idle n = record { own = tt; owns = here }
      by taken.Small n = record { own = tt; owns = here }
      by taken.Shut n = record { own = tt; owns = here }
      by taken.Held n = record { own = tt; owns = here }
      by taken.Stopped n = record { own = tt; owns = here }

  turn_own : (u : Turn) (t : Taken) → turn s size held more ≡ u → IsWritten u s size o t
      → OwnOn a (entries_passed (written_in t)) (after s taking)
  turn_own turns.New t e w = new_own t e w
  turn_own turns.Whole t e w = again_own _ _ t w (ap (λ (x : Turn). (octets_by x s size o).sent) e)
  turn_own turns.Part t e w = again_own _ _ t w (ap (λ (x : Turn). (octets_by x s size o).sent) e)
  turn_own turns.Idle t e w = none_own t w (ap (λ (x : Turn). (octets_by x s size o).sent) e)
  turn_own turns.Stopped t e w = none_own t w (ap (λ (x : Turn). (octets_by x s size o).sent) e)
  turn_own turns.Small t e w = none_own t w (ap (λ (x : Turn). (octets_by x s size o).sent) e)
  turn_own turns.Shut t e w = none_own t w (ap (λ (x : Turn). (octets_by x s size o).sent) e)
  turn_own turns.Held t e w = none_own t w (ap (λ (x : Turn). (octets_by x s size o).sent) e)

  ran_own : OwnOn a (entries_passed (written_in (answer s size held more))) (after s taking)
  ran_own =
      turn_own (turn s size held more) (answer s size held more) refl (writes config calls size held more offered)

-- a data field has at most 32767 octets, since SO has 15 bits
pub take_owns : (size : ℕ) (held : Option ℕ) (more : Bool) (a : Account) (s : State) → size ≤ 32767
    → Owns a.rlc.fields s
    → OwnOn a (entries_passed (written_in (answer s size held more))) (after s (Take size held more))
take_owns size held more a s few h =
    subst
    (λ (x : State). OwnOn a (entries_passed (written_in (answer x size held more))) (after x (Take size held more)))
    h.state_is
    (ran_own h.config h.calls h.offered a h.aired h.fields_are size few held more)
