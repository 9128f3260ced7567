-- What PDCP gives in one direction is read as what it is: a status report tells what had come of the other one as the
-- life began.
use Rattle.std.proofs.Common.{◌≡◌, ◌≤◌, ℕ, zero, suc, ◌-◌, ◌%◌, ◌^◌, Bool, true, false, ◌||◌, List, [], ◌∷◌, ◌++◌, map}
use Rattle.std.proofs.Common.{length, take}
use Rattle.std.proofs.Common.{drop, Option, Some, None, slice_get, append-nil, refl, ap, sym, subst, ◌∙◌, arith}
use Rattle.std.specs.List.{AllByRecursion}
use Rattle.bearer_types.specs.declared.config.BearerConfig.{BearerConfig}
use Rattle.eps_sec.specs.declared.Keys.{Keys}
use Rattle.l2_node.specs.End.{End}
use Rattle.l2_num.specs.Least.{IsLeast}
use Rattle.l2_types.specs.declared.side.Side.{Side}
use Rattle.pdcp_pdu.specs.Kinds.{IsKind}
use Rattle.pdcp_pdu.specs.declared.PdcpKind.{PdcpKind}
use Rattle.pdcp_pdu.specs.declared.PdcpKind.TheVariants.{Am as AmKind}
use Rattle.pdcp_rx.specs.Heard.{Told, heard}
use Rattle.pdcp_rx.specs.State.{report as report_of}
use Rattle.pdcp_sec.specs.Protection.{Protection, ciphered_with}
use Rattle.pdcp_tx.specs.Pdus.{pdu}
use Rattle.pdcp_tx.specs.Runs.{Call, Submit, Take, Confirm, Report, Owe, Tick, Late, after}
use Rattle.pdcp_tx.specs.State.{State, submitted, took, took_owed, took_again, took_new, confirmed, reported, taking}
use Rattle.pdcp_tx.specs.State.{reported_from, fms_count, after_late}
use Rattle.pdcp_tx.specs.declared.sender.Next.{Next}
use Rattle.pdcp_tx_store.specs.Waiting.{Waits}
use Rattle.pdcp_tx_store.specs.declared.given.Sent.{Sent}
use Rattle.law_pdcp.specs.AmPair.Between.{TellsWhatHasCome}
use Rattle.law_pdcp.specs.AmPair.Expected.{IsExpected}
use Rattle.law_pdcp.specs.AmPair.Flow.{Flow, Event, Sends, SetDiscard, Arrive, HandUp, Raise, Restart}
use Rattle.law_pdcp.specs.AmPair.Flow.{AreGiven}
use Rattle.law_pdcp.specs.AmPair.Flow.{happens, run_am_pdcp, am_pdcp_outset, passes, ended}
use Rattle.law_pdcp.specs.OneEnd.Given.{nexts_of, pdus_given}
use Rattle.law_pdcp.proofs.AmPair.Laws.{expected, run_sound, outset_sound}
use Rattle.law_pdcp.proofs.AmPair.Sound.{IsSound, AreWritten, IsWritten}
use Rattle.law_pdcp.proofs.AmPair.Telling.{begins_telling}
use Rattle.law_pdcp.proofs.OneEnd.Openings.{heard_as_written}
use Rattle.law_words.specs.Arrivals.{Account}
use Rattle.law_words.specs.Passing.{nothing_told}
use Rattle.law_deliver.proofs.AmDelivery.Accounts.{Agrees, given_of, tells_passing, tells_given, tells_handed}
use Rattle.law_deliver.proofs.AmDelivery.Ways.{run_more, given_events_more}
use Rattle.law_deliver.specs.AmChannel.Lives.{AirStep}
use Rattle.law_given.specs.Joined.{Direction, IsDirection, IsReportOf, pdcp, is_among, TellsBegun, IsHeardAsData}
use Rattle.law_given.specs.Joined.{AreGiven as AreGivenBoth, AreGivenIn, IsGivenAs}
use Rattle.law_given.specs.Joined.{IsHeardAs, AreHeardIn, AreHeard, AreJoined}

-- ---- calls of a sender leave its kind, and the first COUNT that wasn't confirmed as the life began

pub record IsAlike (s t : State) : Type 0 where
  pub kind : t.kind ≡ s.kind
  pub base : t.base ≡ s.base

new_alike : (s : State) (ws : List Waits) → IsAlike s (took_new ws s)
new_alike s [] = record { kind = refl; base = refl }
new_alike s (w ∷ ws) = record { kind = refl; base = refl }

again_alike : (s : State) (ss : List Sent) → IsAlike s (took_again ss s)
again_alike s [] = new_alike s (take (s.bound - s.next) s.waiting)
again_alike s (x ∷ xs) = record { kind = refl; base = refl }

owed_alike : (s : State) (o : Option (List ℕ)) → IsAlike s (took_owed o s)
owed_alike s None = again_alike s s.again
owed_alike s (Some r) = record { kind = refl; base = refl }

report_alike : (s : State) (c : Option ℕ) (bitmap : List ℕ) → IsAlike s (reported_from c s bitmap)
report_alike s None bitmap = record { kind = refl; base = refl }
report_alike s (Some c) bitmap = record { kind = refl; base = refl }

pub call_alike : (s : State) (c : Call) → IsAlike s (after s c)
unfolding submitted took confirmed reported after_late
call_alike s (Submit sdu) = record { kind = refl; base = refl }
call_alike s Take = owed_alike s s.owed
call_alike s (Confirm place) = record { kind = refl; base = refl }
call_alike s (Report fms bitmap) = report_alike s (fms_count s.kind s.base fms) bitmap
call_alike s (Owe report) = record { kind = refl; base = refl }
call_alike s Tick = record { kind = refl; base = refl }
call_alike s Late = record { kind = refl; base = refl }

-- ---- what has come since

abbrev account_of : Flow → (ℕ → Bool) → Account
account_of f begun = record { given = map given_of f.stream; rlc = nothing_told; ended = begun }

abbrev HasCome : Flow → (ℕ → Bool) → Type 0
HasCome f begun = (count : ℕ) → f.handed count ≡ (begun count || is_among (take f.passed f.stream) count)

agrees : (f : Flow) (begun : ℕ → Bool) → HasCome f begun → Agrees (account_of f begun) f nothing_told
agrees f begun h = record { given_are = refl; rlc_is = refl; handed_are = h }

same_come : (f g : Flow) (begun : ℕ → Bool) → g.stream ≡ f.stream → g.passed ≡ f.passed
    → ((count : ℕ) → g.handed count ≡ f.handed count) → HasCome f begun → HasCome g begun
same_come f g begun stream place handed h =
    (tells_passing [] f g nothing_told stream place handed (account_of f begun) (agrees f begun h)).handed_are

given_come : (f g : Flow) (begun : ℕ → Bool) (o : Option Next) → f.passed ≤ length f.stream
    → g.stream ≡ f.stream ++ nexts_of o → g.passed ≡ f.passed → ((count : ℕ) → g.handed count ≡ f.handed count)
    → HasCome f begun
    → HasCome g begun
given_come f g begun None few stream place handed h =
    same_come f g begun (stream ∙ append-nil f.stream) place handed h
given_come f g begun (Some n) few stream place handed h =
    (tells_given f g n nothing_told few stream place handed (account_of f begun) (agrees f begun h)).handed_are

up_come : (f : Flow) (begun : ℕ → Bool) (o : Option Next) → slice_get f.stream f.passed ≡ o → HasCome f begun
    → HasCome (passes o f) begun
up_come f begun None q h = h
up_come f begun (Some n) q h =
    (tells_handed f (passes (Some n) f) n nothing_told q refl refl (λ count. refl) (account_of f begun)
    (agrees f begun h)).handed_are

none_given : (f : Flow) (c : Call) (begun : ℕ → Bool) → pdus_given f.sender c ≡ [] → f.passed ≤ length f.stream
    → HasCome f begun → HasCome (happens f (Sends c)) begun
none_given f c begun q few h =
    given_come f (happens f (Sends c)) begun None few (ap (λ (ns : List Next). f.stream ++ ns) q) refl (λ count. refl) h

call_come : (f : Flow) (begun : ℕ → Bool) (c : Call) → f.passed ≤ length f.stream → HasCome f begun
    → HasCome (happens f (Sends c)) begun
call_come f begun (Submit sdu) few h = none_given f (Submit sdu) begun refl few h
call_come f begun Take few h =
    given_come f (happens f (Sends Take)) begun (taking f.sender) few refl refl (λ count. refl) h
call_come f begun (Confirm place) few h = none_given f (Confirm place) begun refl few h
call_come f begun (Report fms bitmap) few h = none_given f (Report fms bitmap) begun refl few h
call_come f begun (Owe report) few h = none_given f (Owe report) begun refl few h
call_come f begun Tick few h = none_given f Tick begun refl few h
call_come f begun Late few h = none_given f Late begun refl few h

-- ---- the report of the life

abbrev pub HasTold : Flow → Type 0
HasTold f = (report : List ℕ) → f.report ≡ Some report → TellsBegun f report

-- so it goes on
record Keeps (f g : Flow) : Type 0 where
  report : g.report ≡ f.report
  first : g.first ≡ f.first
  sender : IsAlike f.sender g.sender
  come : (begun : ℕ → Bool) → HasCome f begun → HasCome g begun

told_on : (f g : Flow) → Keeps f g → HasTold f → HasTold g
told_on f g k h report q =
    let all = h report (sym k.report ∙ q) in
    let t = all.tells_begun in
    record {
      begun = all.begun;
      tells_begun = record {
        fms = t.fms;
        bitmap = t.bitmap;
        from = t.from;
        is = subst (λ (x : PdcpKind). heard x report ≡ Told t.fms t.bitmap) (sym k.sender.kind) t.is;
        read = subst (λ (x : PdcpKind). fms_count x g.sender.base t.fms ≡ Some t.from) (sym k.sender.kind)
            (subst (λ (n : ℕ). fms_count f.sender.kind n t.fms ≡ Some t.from) (sym k.sender.base) t.read);
        expected = subst (λ (n : ℕ). IsLeast all.begun n t.from) (sym k.first) t.expected;
        told = λ count le. t.told count (omega (arith, le, k.first));
      };
      come = k.come all.begun all.come;
    }

alike : (s : State) → IsAlike s s
alike s = record { kind = refl; base = refl }

up_keeps : (f : Flow) (o : Option Next) → slice_get f.stream f.passed ≡ o → Keeps f (passes o f)
up_keeps f None q = record { report = refl; first = refl; sender = alike f.sender; come = λ begun h. h }
up_keeps f (Some n) q = record {
  report = refl;
  first = refl;
  sender = alike f.sender;
  come = λ begun h. up_come f begun (Some n) q h;
}

pub or_none : (b : Bool) → b ≡ (b || false)
or_none true = refl
or_none false = refl

module _ (bits : ℕ) (p : Protection) (first : ℕ) (kind : IsKind (AmKind bits)) (le : first ≤ 2 ^ 32) where
  abbrev outset : Flow
  outset = am_pdcp_outset bits p first

  sound_at : (es : List Event) → AreGiven outset es → IsSound bits (run_am_pdcp es outset)
  sound_at es g = run_sound bits es outset g (outset_sound bits p first kind le)

  -- the end of a life
  begins_told : (es : List Event) (keys : Keys) → AreGiven outset es
      → HasTold (happens (run_am_pdcp es outset) (Restart keys))
  begins_told es keys g report q =
      let f = run_am_pdcp es outset in
      let b = happens f (Restart keys) in
      let t : TellsWhatHasCome b = begins_telling bits p first es keys kind le g in
      let more : run_am_pdcp (es ++ Restart keys ∷ []) outset ≡ b = run_more outset es (Restart keys ∷ []) in
      let given = given_events_more outset es (Restart keys ∷ []) g (tt, tt) in
      let e : IsExpected b = subst IsExpected more (expected bits p first (es ++ Restart keys ∷ []) kind le given) in
      let same : report_of (ended f).receiver ≡ report = cc in
      record {
        begun = b.handed;
        tells_begun = record {
          fms = t.fms;
          bitmap = t.bitmap;
          from = b.receiver.next;
          is = subst (λ (r : List ℕ). heard b.sender.kind r ≡ Told t.fms t.bitmap) same t.comes;
          read = t.read;
          expected = e.least;
          told = t.told;
        };
        come = λ count. or_none (b.handed count);
      }

  one_told : (es : List Event) (e : Event) → AreGiven outset es → HasTold (run_am_pdcp es outset)
      → HasTold (happens (run_am_pdcp es outset) e)
  one_told es (Sends c) g h =
      let f = run_am_pdcp es outset in
      told_on f (happens f (Sends c)) (record {
        report = refl;
        first = refl;
        sender = call_alike f.sender c;
        come = λ begun k. call_come f begun c (sound_at es g).few k;
      }) h
  one_told es (SetDiscard ttis) g h =
      let f = run_am_pdcp es outset in
      told_on f (happens f (SetDiscard ttis)) (record {
        report = refl;
        first = refl;
        sender = record { kind = refl; base = refl };
        come = λ begun k. k;
      }) h
  one_told es (Arrive place) g h =
      let f = run_am_pdcp es outset in
      told_on f (happens f (Arrive place)) (record {
        report = refl;
        first = refl;
        sender = alike f.sender;
        come = λ begun k. k;
      }) h
  one_told es HandUp g h =
      let f = run_am_pdcp es outset in
      told_on f (happens f HandUp) (up_keeps f (slice_get f.stream f.passed) refl) h
  one_told es Raise g h =
      let f = run_am_pdcp es outset in
      told_on f (happens f Raise) (record {
        report = refl;
        first = refl;
        sender = alike f.sender;
        come = λ begun k. k;
      }) h
  one_told es (Restart keys) g h = begins_told es keys g

  -- ---- one with a COUNT is none

  abbrev IsPlain : Next → Type 0
  IsPlain n = (count : ℕ) → n.count ≡ Some count → IsHeardAsData (AmKind bits) n.octets

  plain_written : (sdus : List (List ℕ)) (q : Protection) (k : PdcpKind) (n : Next) → k ≡ AmKind bits
      → IsWritten first sdus k q n.count n.octets → IsPlain n
  plain_written sdus q k n am w count is =
      let d = subst (λ (o : Option ℕ). IsWritten first sdus k q o n.octets) is w in
      let x = subst (λ (y : PdcpKind). n.octets ≡ pdu y q count d.sdu) am d.is in
      record {
        sn = count % 2 ^ bits;
        body = ciphered_with q count d.sdu;
        is = ap (heard (AmKind bits)) x ∙ heard_as_written bits q count d.sdu kind d.some;
      }

  last_written : (sdus : List (List ℕ)) (k : PdcpKind) (q : Protection) (ns : List Next) (n : Next) (m : ℕ)
      → m ≤ length ns → AreWritten first sdus k q (drop m (ns ++ n ∷ [])) → IsWritten first sdus k q n.count n.octets
  last_written sdus k q [] n zero le w = w.0
  last_written sdus k q [] n (suc m) le w = absurd (omega (arith, le))
  last_written sdus k q (x ∷ ns) n zero le w = last_written sdus k q ns n zero (omega arith) w.1
  last_written sdus k q (x ∷ ns) n (suc m) le w = last_written sdus k q ns n m (omega (arith, le)) w

  all_end : (ns : List Next) (n : Next) → AllByRecursion IsPlain ns → IsPlain n → AllByRecursion IsPlain (ns ++ n ∷ [])
  all_end [] n h k = (k, tt)
  all_end (x ∷ ns) n h k = (h.0, all_end ns n h.1 k)

  given_plain : (f : Flow) (o : Option Next) (s : State) (m : ℕ) (sdus : List (List ℕ)) → m ≤ length f.stream
      → s.kind ≡ AmKind bits
      → AreWritten first sdus s.kind s.protection (drop m (f.stream ++ nexts_of o)) → AllByRecursion IsPlain f.stream
      → AllByRecursion IsPlain (f.stream ++ nexts_of o)
  given_plain f None s m sdus few am w h = subst (AllByRecursion IsPlain) (sym (append-nil f.stream)) h
  given_plain f (Some n) s m sdus few am w h =
      all_end f.stream n h
      (plain_written sdus s.protection s.kind n am (last_written sdus s.kind s.protection f.stream n m few w))

  none_plain : (f : Flow) → AllByRecursion IsPlain f.stream → AllByRecursion IsPlain (f.stream ++ [])
  none_plain f h = subst (AllByRecursion IsPlain) (sym (append-nil f.stream)) h

  passes_stream : (o : Option Next) (f : Flow) → (passes o f).stream ≡ f.stream
  passes_stream None f = refl
  passes_stream (Some n) f = refl

  one_plain : (f : Flow) (e : Event) → f.first ≡ first → IsSound bits f → IsSound bits (happens f e)
      → AllByRecursion IsPlain f.stream
      → AllByRecursion IsPlain (happens f e).stream
  one_plain f (Sends (Submit sdu)) q a b h = none_plain f h
  one_plain f (Sends Take) q a b h =
      let g = happens f (Sends Take) in
      given_plain f (taking f.sender) g.sender f.passed g.sdus a.few b.sends.am
      (subst (λ (n : ℕ). AreWritten n g.sdus g.sender.kind g.sender.protection (drop f.passed g.stream)) q
      b.links.written) h
  one_plain f (Sends (Confirm place)) q a b h = none_plain f h
  one_plain f (Sends (Report fms bitmap)) q a b h = none_plain f h
  one_plain f (Sends (Owe report)) q a b h = none_plain f h
  one_plain f (Sends Tick) q a b h = none_plain f h
  one_plain f (Sends Late) q a b h = none_plain f h
  one_plain f (SetDiscard ttis) q a b h = h
  one_plain f (Arrive place) q a b h = h
  one_plain f HandUp q a b h =
      subst (AllByRecursion IsPlain) (sym (passes_stream (slice_get f.stream f.passed) f)) h
  one_plain f Raise q a b h = h
  one_plain f (Restart keys) q a b h = tt

  -- ---- any events

  record Reads (f : Flow) : Type 0 where
    first_is : f.first ≡ first
    told : HasTold f
    plain : AllByRecursion IsPlain f.stream

  passes_first : (o : Option Next) (f : Flow) → (passes o f).first ≡ f.first
  passes_first None f = refl
  passes_first (Some n) f = refl

  keeps_first : (f : Flow) (e : Event) → (happens f e).first ≡ f.first
  keeps_first f (Sends c) = refl
  keeps_first f (SetDiscard ttis) = refl
  keeps_first f (Arrive place) = refl
  keeps_first f HandUp = passes_first (slice_get f.stream f.passed) f
  keeps_first f Raise = refl
  keeps_first f (Restart keys) = refl

  reads_on : (es before : List Event) → AreGiven outset before → AreGiven (run_am_pdcp before outset) es
      → Reads (run_am_pdcp before outset) → Reads (run_am_pdcp es (run_am_pdcp before outset))
  reads_on [] before g given h = h
  reads_on (e ∷ es) before g given h =
      let f = run_am_pdcp before outset in
      let more : run_am_pdcp (before ++ e ∷ []) outset ≡ happens f e = run_more outset before (e ∷ []) in
      let now = given_events_more outset before (e ∷ []) g (given.0, tt) in
      let ok : IsSound bits (happens f e) = subst (IsSound bits) more (sound_at (before ++ e ∷ []) now) in
      let here : Reads (happens f e) = record {
        first_is = keeps_first f e ∙ h.first_is;
        told = one_told before e g h.told;
        plain = one_plain f e h.first_is (sound_at before g) ok h.plain;
      } in
      subst (λ (x : Flow). Reads (run_am_pdcp es x)) more
      (reads_on es (before ++ e ∷ []) now (subst (λ (x : Flow). AreGiven x es) (sym more) given.1)
      (subst Reads (sym more) here))

  reads : (es : List Event) → AreGiven outset es → Reads (run_am_pdcp es outset)
  reads es given =
      reads_on es [] tt given (record {
        first_is = refl;
        told = λ report q. (let no : None ≡ Some report = q in absurd cc);
        plain = tt;
      })

-- ---- both directions

-- what the PDUs of a direction are, and its report
pub record IsReadIn (bits : ℕ) (f : Flow) : Type 0 where
  pub kind : f.sender.kind ≡ AmKind bits
  pub few : f.passed ≤ length f.stream
  pub told : HasTold f
  pub plain : AllByRecursion (λ (n : Next). (count : ℕ) → n.count ≡ Some count → IsHeardAsData (AmKind bits) n.octets)
      f.stream

pub read_in : (c : BearerConfig) (d : Direction) → IsDirection c d → IsReadIn c.pdcp_bits (pdcp d)
read_in c d h =
    let r = reads d.bits d.protection d.first h.kind h.counts d.events h.events in
    let ok = sound_at d.bits d.protection d.first h.kind h.counts d.events h.events in
    subst (λ (bits : ℕ). IsReadIn bits (pdcp d)) h.bits (record {
      kind = ok.sends.am;
      few = ok.few;
      told = r.told;
      plain = r.plain;
    })

pub first_in : (c : BearerConfig) (d : Direction) → IsDirection c d → (pdcp d).first ≡ c.first
first_in c d h = (reads d.bits d.protection d.first h.kind h.counts d.events h.events).first_is ∙ h.first

one_heard : (bits : ℕ) (f : Flow) (octets : List ℕ) (o : Option ℕ) → f.sender.kind ≡ AmKind bits → HasTold f
    → (o ≡ None → f.report ≡ Some octets)
    → ((count : ℕ) → o ≡ Some count → IsHeardAsData (AmKind bits) octets) → IsHeardAs f octets o
one_heard bits f octets None kind told report plain = told octets (report refl)
one_heard bits f octets (Some count) kind told report plain =
    subst (λ (k : PdcpKind). IsHeardAsData k octets) (sym kind) (plain count refl)

all_heard : (bits : ℕ) (f : Flow) (ns : List Next) → f.sender.kind ≡ AmKind bits → HasTold f
    → AllByRecursion (IsReportOf f.report) ns
    → AllByRecursion (λ (n : Next). (count : ℕ) → n.count ≡ Some count → IsHeardAsData (AmKind bits) n.octets) ns
    → AreHeardIn f ns
all_heard bits f [] kind told report plain = tt
all_heard bits f (n ∷ ns) kind told report plain = (
  one_heard bits f n.octets n.count kind told report.0 plain.0,
  all_heard bits f ns kind told report.1 plain.1,
)

pub reports_are_read : (l : ℕ) (c : BearerConfig) (nb ue : End) (from : Side) (steps : List AirStep)
    (j : AreJoined l c nb ue from steps) → AreHeard (pdcp j.there) (pdcp j.back)
reports_are_read l c nb ue from steps j =
    let there = read_in c j.there j.there_is in
    let back = read_in c j.back j.back_is in
    record {
      going =
          all_heard c.pdcp_bits (pdcp j.back) (pdcp j.there).stream back.kind back.told j.back_reports.sent there.plain;
      coming =
          all_heard c.pdcp_bits (pdcp j.there) (pdcp j.back).stream there.kind there.told j.there_reports.sent
          back.plain;
    }

-- ---- what it is

given_as : (f : Flow) (octets : List ℕ) (o : Option ℕ)
    → IsWritten f.first f.sdus f.sender.kind f.sender.protection o octets → IsGivenAs f octets o
given_as f octets None w = tt
given_as f octets (Some count) w = record { sdu = w.sdu; named = w.named; is = w.is }

all_given : (f : Flow) (ns : List Next) → AreWritten f.first f.sdus f.sender.kind f.sender.protection ns
    → AllByRecursion (λ (n : Next). IsGivenAs f n.octets n.count) ns
all_given f [] w = tt
all_given f (n ∷ ns) w = (given_as f n.octets n.count w.0, all_given f ns w.1)

given_in : (c : BearerConfig) (d : Direction) → IsDirection c d → AreGivenIn (pdcp d)
given_in c d h =
    let ok = sound_at d.bits d.protection d.first h.kind h.counts d.events h.events in
    all_given (pdcp d) (drop (pdcp d).passed (pdcp d).stream) ok.links.written

pub pdus_are_given : (l : ℕ) (c : BearerConfig) (nb ue : End) (from : Side) (steps : List AirStep)
    (j : AreJoined l c nb ue from steps) → AreGivenBoth (pdcp j.there) (pdcp j.back)
pdus_are_given l c nb ue from steps j =
    record { going = given_in c j.there j.there_is; coming = given_in c j.back j.back_is }
