-- What is seen of RLC's sender in any calls of an acknowledged bearer, by what these tell.
use Rattle.std.proofs.Common.{◌≡◌, ℕ, Bool, true, false, Option, Some, None, List, [], ◌∷◌, ◌++◌, append-nil, refl, ap}
use Rattle.std.proofs.Common.{sym, subst, ◌∙◌}
use Rattle.std.specs.List.{AllByRecursion}
use Rattle.bearer.specs.declared.flow.Flow.{Flow}
use Rattle.bearer.specs.declared.flow.Flow.TheVariants.{Am}
use Rattle.bearer.specs.Taking.{pdus}
use Rattle.bearer.specs.Acknowledged.State.{State}
use Rattle.bearer.specs.Acknowledged.Taking.{given_to, data_told, status_pdus}
use Rattle.bearer.specs.Acknowledged.Timing.{poll_told, told_of}
use Rattle.bearer.specs.Acknowledged.Hearing.{started_told}
use Rattle.bearer_pdcp.specs.Taking.{taken, taking_told}
use Rattle.bearer_pdcp.specs.Telling.{pdus_of}
use Rattle.bearer_types.specs.declared.event.Event.{Event}
use Rattle.law_bearer.specs.AnyBearer.Calls.{Call as BearerCall, Submit, Take, Arrive, Expire, Tick, SetDiscard}
use Rattle.law_bearer.specs.AnyBearer.Calls.{after as called, after_all}
use Rattle.law_deliver.specs.AmFlow.Ups.{tells_in, tells_over}
use Rattle.rlc_am_tx.specs.Machine.{State as Sender, answer as rlc_answer, after_take, with_poll, settled_by}
use Rattle.rlc_am_tx.specs.Machine.{settles as settles_so, heard, after_status, expiry as poll_expiry}
use Rattle.rlc_am_tx.specs.Machine.{after_expiry as after_poll}
use Rattle.rlc_am_tx_window.specs.Window.{TxWindow}
use Rattle.rlc_pdu.specs.Pdus.{StatusPdu}
use Rattle.law_run.specs.TwoEnds.SenderLog.{BearerEntry, Tells, Writes, Comes, telling, writing, bearer_log, read_told}
use Rattle.law_run.specs.TwoEnds.ChannelLog.{told_in}
use Rattle.law_run.proofs.Quiet.{tell_sender}
use Rattle.law_run.proofs.SenderLog.{IsKeptAlong, AnyCall, any_met, call_along}
use Rattle.law_run.proofs.Still.{flow_so, taking_still, started_still}

pub record Seen : Type 0 where
  pub failed : Bool
  pub window : TxWindow

abbrev pub seen : Sender → Seen
seen s = record { failed = s.failed; window = s.window }

pub poll_seen : (wanted : Bool) (s : Sender) → seen (with_poll wanted s) ≡ seen s
poll_seen true s = refl
poll_seen false s = refl

settled_seen : (starts : Bool) (s : Sender) → seen (settled_by starts s) ≡ seen s
settled_seen true s = refl
settled_seen false s = refl

given_seen : (pdu : Option (List ℕ)) (s : Sender) → seen (given_to pdu s) ≡ seen s
given_seen None s = refl
given_seen (Some pdu) s = refl

-- ---- from what is seen of it to what is seen then, by what is told

pub record IsKept (R : Seen → List Event → Seen → Type 0) : Type 0 where
  pub still : (v : Seen) (told : List Event) → tell_sender told ≡ false → R v told v
  pub both : (a b c : Seen) (xs ys : List Event) → R a xs b → R b ys c → R a (xs ++ ys) c
  pub sends : (lcid : ℕ) (s : Sender) (size : ℕ) (held : Option ℕ) (more : Bool)
      → R (seen s) (data_told lcid (rlc_answer s size held more)) (seen (after_take s size held more))
  pub reads : (lcid : ℕ) (s : Sender) (p : StatusPdu)
      → R (seen s) (read_told lcid (heard s p)) (seen (after_status s p))
  pub expires : (lcid : ℕ) (s : Sender) (more : Bool)
      → R (seen s) (told_of (poll_told lcid (poll_expiry s more))) (seen (after_poll s more))

-- of a bearer, and what it is then
pub record Carries (R : Seen → List Event → Seen → Type 0) (b : State) (told : List Event) (f : Flow) : Type 0 where
  pub bearer : State
  pub flow_is : f ≡ Am bearer
  pub kept : R (seen b.tx) told (seen bearer.tx)

-- ---- what is told in a log

pub said_both : (xs ys : List BearerEntry) → told_in (xs ++ ys) ≡ told_in xs ++ told_in ys
said_both [] ys = refl
said_both (Tells e ∷ xs) ys = ap (λ (es : List Event). e ∷ es) (said_both xs ys)
said_both (Writes octets ∷ xs) ys = said_both xs ys
said_both (Comes octets ∷ xs) ys = said_both xs ys

pub said_telling : (told : List Event) → told_in (telling told) ≡ told
said_telling [] = refl
said_telling (e ∷ told) = ap (λ (es : List Event). e ∷ es) (said_telling told)

pub said_writing : (written : List (List ℕ)) → told_in (writing written) ≡ []
said_writing [] = refl
said_writing (octets ∷ written) = said_writing written

pub said_all : (told : List Event) (written : List (List ℕ)) → told_in (telling told ++ writing written) ≡ told
said_all told written =
    said_both (telling told) (writing written)
    ∙ (ap (λ (es : List Event). es ++ told_in (writing written)) (said_telling told)
    ∙ (ap (λ (es : List Event). told ++ es) (said_writing written) ∙ append-nil told))

pub said_log : (l : ℕ) (f : Flow) (c : BearerCall) → told_in (bearer_log l f c) ≡ tells_in l f c
said_log l f (Submit sdu) = refl
said_log l f (Take share held) = said_all (tells_in l f (Take share held)) (pdus f share held)
said_log l f (Arrive pdu) = said_telling (tells_in l f (Arrive pdu))
said_log l f (Expire clock) = said_telling (tells_in l f (Expire clock))
said_log l f Tick = said_telling (tells_in l f Tick)
said_log l f (SetDiscard ttis) = refl

-- ---- any calls

abbrev AnyOctets : List ℕ → Type 0
AnyOctets octets = Unit {0}

any_octets : (xs : List (List ℕ)) → AllByRecursion AnyOctets xs
any_octets [] = tt
any_octets (x ∷ xs) = (tt, any_octets xs)

module _ (R : Seen → List Event → Seen → Type 0) (k : IsKept R) where
  abbrev Along : Sender → List BearerEntry → Sender → Type 0
  Along s es t = R (seen s) (told_in es) (seen t)

  -- where nothing is told of it, nor seen of what becomes of it
  still_along : (s t : Sender) (told : List Event) → seen t ≡ seen s → tell_sender told ≡ false
      → Along s (telling told) t
  still_along s t told same quiet =
      subst (λ (es : List Event). R (seen s) es (seen t)) (sym (said_telling told))
      (subst (λ (v : Seen). R (seen s) told v) (sym same) (k.still (seen s) told quiet))

  kept_along : IsKeptAlong AnyOctets AnyCall Along
  kept_along = record {
    still = λ s told quiet. still_along s s told refl (flow_so told quiet);
    both = λ a b c xs ys p q. subst (λ (es : List Event). R (seen a) es (seen c)) (sym (said_both xs ys))
        (k.both (seen a) (seen b) (seen c) (told_in xs) (told_in ys) p q);
    offers = λ e s g. still_along s (given_to (taken e) s) (taking_told e) (given_seen (taken e) s) (taking_still e);
    sends = λ lcid s size held more reports well g.
        subst (λ (es : List Event). R (seen s) es (seen (after_take s size held more)))
        (sym (said_all (data_told lcid (rlc_answer s size held more))
        (reports ++ pdus_of (rlc_answer s size held more)))) (k.sends lcid s size held more);
    passes = λ s pdu no. k.still (seen s) [] refl;
    reads = λ lcid s pdu p e g.
        subst (λ (es : List Event). R (seen s) es (seen (after_status s p)))
        (sym (said_telling (read_told lcid (heard s p)))) (k.reads lcid s p);
    confirms = λ s. k.still (seen s) [] refl;
    settles = λ lcid s more.
        let starts = settles_so s more in
        still_along s (settled_by starts s) (started_told lcid starts) (settled_seen starts s)
        (started_still lcid starts);
    counts = λ s. k.still (seen s) [] refl;
    expires = λ lcid s more g.
        subst (λ (es : List Event). R (seen s) es (seen (after_poll s more)))
        (sym (said_telling (told_of (poll_told lcid (poll_expiry s more))))) (k.expires lcid s more);
  }

  pub call_kept : (l : ℕ) (b : State) (c : BearerCall) → Carries R b (tells_in l (Am b) c) (called (Am b) c)
  call_kept l b c =
      let x = call_along AnyOctets AnyCall Along kept_along l b c
      (any_met AnyOctets b c (λ share held e. any_octets (status_pdus b.rx share))) in
      record {
        bearer = x.bearer;
        flow_is = x.flow_is;
        kept = subst (λ (es : List Event). R (seen b.tx) es (seen x.bearer.tx)) (said_log l (Am b) c) x.kept;
      }

  pub calls_kept : (l : ℕ) (b : State) (cs : List BearerCall)
      → Carries R b (tells_over l (Am b) cs) (after_all (Am b) cs)
  calls_kept l b [] = record { bearer = b; flow_is = refl; kept = k.still (seen b.tx) [] refl }
  calls_kept l b (c ∷ cs) =
      let one = call_kept l b c in
      let f = called (Am b) c in
      let rest : Carries R one.bearer (tells_over l f cs) (after_all f cs) =
      subst (λ (g : Flow). Carries R one.bearer (tells_over l g cs) (after_all g cs)) (sym one.flow_is)
      (calls_kept l one.bearer cs) in
      record {
        bearer = rest.bearer;
        flow_is = rest.flow_is;
        kept = k.both (seen b.tx) (seen one.bearer.tx) (seen rest.bearer.tx) (tells_in l (Am b) c)
            (tells_over l f cs) one.kept rest.kept;
      }
