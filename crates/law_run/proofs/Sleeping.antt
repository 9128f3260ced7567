-- Where no line configures DRX the terminal never sleeps.
use Rattle.std.proofs.Common.{◌≡◌, ◌⊎◌, inl, inr, ℕ, zero, suc, ◌+◌, Bool, true, false, cond, Option, List, [], ◌∷◌}
use Rattle.std.proofs.Common.{◌++◌, refl, ap, sym, subst, arith, ◌∙◌}
use Rattle.std.specs.List.{filter}
use Rattle.std.proofs.lemmas.List.Elements.{filter-append}
use Rattle.air_link.specs.Draining.{drain_tti, carried, receivers_expire, is_drained}
use Rattle.air_link.specs.Link.{Link, fresh as fresh_link}
use Rattle.air_link.specs.Ttis.{sleeps, sleeps_by, tti}
use Rattle.air_record.specs.Cells.{next_keys}
use Rattle.air_record.specs.Outcomes.{intact}
use Rattle.air_record.specs.declared.line.Line.{Line}
use Rattle.air_record.specs.declared.line.Line.TheVariants as lines
use Rattle.air_record.specs.declared.line.Outcome.{Outcome}
use Rattle.air_record.specs.declared.record.Record.{Record}
use Rattle.air_record.specs.declared.record.Record.TheVariants as records
use Rattle.air_run.specs.Draining.{shown, ttis, senders_unless, round, left_by, rounds, budget, drained}
use Rattle.air_run.specs.Playing.{keys_or_none, acted, played}
use Rattle.air_run.specs.Run.{fresh}
use Rattle.air_text.specs.Groups.{Group}
use Rattle.eps_sec.specs.declared.Keys.{Keys}
use Rattle.law_run.specs.AnyCalls.Calls as calls
use Rattle.law_run.specs.AnyCalls.Told.{AddsTti}
use Rattle.law_run.proofs.AnyCalls.Passing.{tti_adds}
use Rattle.law_run.proofs.AnyCalls.Waking.{HasNoDrx, tti_none, drain_none, submitting_same, call_none, receivers_same}
use Rattle.law_run.proofs.AnyCalls.Waking.{senders_same}
use Rattle.prioritise.proofs.ChannelLemmas.{both_false}
use Rattle.promises.specs.Air.{ttis as ttis_behind, Flies, FliesIntact, InTurn, AreFlown}
use Rattle.promises.specs.Flights.{FliesUp, IsUnanswered, IsDown, IsUp}
use Rattle.promises.specs.Parts.{part_of_line}
use Rattle.promises.specs.Records.{is_of_air}
use Rattle.promises.specs.Sleeps.{sets_drx, is_drx_set, is_sleep, SleepsBehindDrx}
use Rattle.test_loop.specs.declared.Mode.TheVariants.{Off, A, B}
use Rattle.law_run.specs.Order.{KeepsOrder}
use Rattle.law_run.proofs.Past.{behind, link_behind}

-- ---- a line that doesn't configure it

ttis_none : (n grant : ℕ) (l : Link) → HasNoDrx l → HasNoDrx (ttis n grant l).link
ttis_none zero grant l e = e
ttis_none (suc n) grant l e = ttis_none n grant (shown (drain_tti grant l)) (drain_none grant l e)

senders_if : (b : Bool) (l : Link) → HasNoDrx l → HasNoDrx (senders_unless b l)
senders_if true l e = e
senders_if false l e = senders_same l ∙ e

round_none : (grant : ℕ) (l : Link) → HasNoDrx l → HasNoDrx (round grant l)
round_none grant l e =
    let m = drain_tti grant l in
    senders_if (carried m) (receivers_expire m) (receivers_same m ∙ drain_none grant l e)

left_if : (b : Bool) (grant : ℕ) (l : Link) → HasNoDrx l → HasNoDrx (left_by b grant l)
left_if true grant l e = e
left_if false grant l e = round_none grant l e

rounds_none : (n grant : ℕ) (l : Link) → HasNoDrx l → HasNoDrx (rounds n grant l).link
rounds_none zero grant l e = e
rounds_none (suc n) grant l e =
    rounds_none n grant (left_by (is_drained l) grant l) (left_if (is_drained l) grant l e)

drained_none : (grant : ℕ) (l : Link) → HasNoDrx l → HasNoDrx (drained grant l).link
unfolding drained
drained_none grant l e =
    let m = (ttis 8 grant l).link in
    rounds_none (budget l) grant m (ttis_none 8 grant l e)

line_none : (line : Line) (keys : Option Keys) (l : Link) → sets_drx line ≡ false → HasNoDrx l
    → HasNoDrx (played line keys l)
unfolding acted
line_none (lines.Harq maximum) keys l own e = call_none (calls.Visits maximum) l refl e
line_none lines.Bsr keys l own e = call_none calls.Reports l refl e
line_none (lines.Keys ks) keys l own e = e
line_none (lines.Bearer config options) keys l own e = call_none (calls.Bears config (keys_or_none keys)) l refl e
line_none (lines.Submit side lcid octets) keys l own e = submitting_same side lcid octets l ∙ e
line_none (lines.Tti up_grant up down_grant down) keys l own e = tti_none up_grant up down_grant down l e
line_none (lines.Expire side lcid clock) keys l own e = call_none (calls.Expires side lcid clock) l refl e
line_none (lines.Handover user rrc integrity) keys l own e =
    call_none (calls.HandsOver (next_keys user rrc integrity (keys_or_none keys))) l refl e
line_none lines.LoopOff keys l own e = call_none (calls.Loops Off) l refl e
line_none (lines.LoopA size) keys l own e = call_none (calls.Loops (A size)) l refl e
line_none (lines.LoopB delay) keys l own e = call_none (calls.Loops (B delay)) l refl e
line_none (lines.Drain grant) keys l own e = drained_none grant l e
line_none (lines.Forge side octets) keys l own e = call_none (calls.Forges side octets) l refl e
line_none (lines.Discard lcid count) keys l own e = call_none (calls.Discards lcid count) l refl e
line_none (lines.Drx config) keys l own e = absurd cc
line_none lines.End keys l own e = e

none_behind : (past : List Group) → is_drx_set past ≡ false → HasNoDrx (link_behind past)
unfolding fresh fresh_link
none_behind [] own = refl
none_behind (g ∷ past) own =
    let apart = both_false (sets_drx g.line) (is_drx_set past) own in
    line_none g.line _ (link_behind past) apart.0 (none_behind past apart.1)

-- ---- what is told

of_the_air : (one : Record) → is_sleep one ≡ true → is_of_air one ≡ true
of_the_air records.Sleep e = refl
of_the_air one e = absurd cc

sleep_by : (one : Record) (xs : List Record) (a b : Bool) → is_of_air one ≡ a → is_sleep one ≡ b
    → filter is_sleep (filter is_of_air xs) ≡ filter is_sleep xs
    → filter is_sleep (cond a (one ∷ filter is_of_air xs) (filter is_of_air xs))
    ≡ cond b (one ∷ filter is_sleep xs) (filter is_sleep xs)
sleep_by one xs true true e f h = rw f (ap (λ (ys : List Record). one ∷ ys) h)
sleep_by one xs true false e f h = rw f h
sleep_by one xs false true e f h = let now = sym e ∙ of_the_air one f in absurd cc
sleep_by one xs false false e f h = h

-- sleep is told of the air alone
of_air_alone : (xs : List Record) → filter is_sleep (filter is_of_air xs) ≡ filter is_sleep xs
of_air_alone [] = refl
of_air_alone (one ∷ xs) = sleep_by one xs (is_of_air one) (is_sleep one) refl refl (of_air_alone xs)

abbrev TellNoSleep : List Record → Type 0
TellNoSleep told = filter is_sleep told ≡ []

none_then : (xs ys : List Record) → TellNoSleep xs → TellNoSleep ys → TellNoSleep (xs ++ ys)
none_then xs ys p q = filter-append is_sleep xs ys ∙ ap (λ (zs : List Record). zs ++ filter is_sleep ys) p ∙ q

down_none : (t grant : ℕ) (o : Outcome) (told : List Record) → IsDown t grant o told → TellNoSleep told
down_none t zero o told h = ap (filter is_sleep) (h.none refl)
down_none t (suc n) o told h = ap (filter is_sleep) (h.one (omega arith)).flown_is

answer_none : (t : ℕ) (o : Outcome) (told : List Record) → FliesUp t o told ⊎ IsUnanswered o told → TellNoSleep told
answer_none t o told (inl f) = ap (filter is_sleep) f.flown_is
answer_none t o told (inr f) = ap (filter is_sleep) f.flown_is

up_none : (t grant : ℕ) (o : Outcome) (told : List Record) → IsUp t grant o told → TellNoSleep told
up_none t zero o told h = ap (filter is_sleep) (h.none refl)
up_none t (suc n) o told h = answer_none t o told (h.one (omega arith))

flies_none : (t up_grant : ℕ) (up : Outcome) (down_grant : ℕ) (down : Outcome) (told : List Record)
    → Flies false t up_grant up down_grant down told → TellNoSleep told
flies_none t up_grant up down_grant down told f =
    ap (filter is_sleep) f.told_is
    ∙ none_then f.downward f.upward (down_none t down_grant down f.downward f.down_is)
    (up_none t up_grant up f.upward f.up_is)

intact_none : (grant t n : ℕ) (told : List Record) → InTurn (λ k. FliesIntact k grant) t n told → TellNoSleep told
intact_none grant t zero told h = ap (filter is_sleep) h
intact_none grant t (suc n) told h =
    ap (filter is_sleep) h.told_are
    ∙ none_then h.first h.second (flies_none t grant intact grant intact h.first h.is_first)
    (intact_none grant (t + 1) n h.second h.is_second)

by_air : (told : List Record) → TellNoSleep (filter is_of_air told) → TellNoSleep told
by_air told h = sym (of_air_alone told) ∙ h

none_of_air : (told : List Record) → filter is_of_air told ≡ [] → TellNoSleep told
none_of_air told h = by_air told (ap (filter is_sleep) h)

awake : (l : Link) → HasNoDrx l → sleeps l.ttis l ≡ false
awake l e = ap (λ d. sleeps_by d l.ttis l) e

tti_tells_none : (up_grant : ℕ) (up : Outcome) (down_grant : ℕ) (down : Outcome) (l : Link) → l.out ≡ [] → HasNoDrx l
    → TellNoSleep (tti up_grant up down_grant down l).out
tti_tells_none up_grant up down_grant down l nothing e =
    let m = tti up_grant up down_grant down l in
    let a = subst (λ (b : Bool). AddsTti b up_grant up down_grant down l m) (awake l e)
    (tti_adds up_grant up down_grant down l) in
    let out : m.out ≡ records.Tti l.ttis ∷ a.more = a.out_is
    ∙ ap (λ (x : List Record). x ++ records.Tti l.ttis ∷ a.more) nothing in
    ap (filter is_sleep) out
    ∙ by_air a.more
    (flies_none l.ttis up_grant up down_grant down (filter is_of_air a.more)
    (record {
      downward = a.downward;
      upward = a.upward;
      told_is = a.told.flown_is;
      down_is = a.down_is;
      up_is = a.up_is;
    }))

line_tells_none : (t : ℕ) (line : Line) (keys : Option Keys) (l : Link) → l.out ≡ [] → HasNoDrx l
    → AreFlown t (part_of_line line) (played line keys l).out → TellNoSleep (played line keys l).out
unfolding acted
line_tells_none t (lines.Tti up_grant up down_grant down) keys l nothing e flown =
    tti_tells_none up_grant up down_grant down l nothing e
line_tells_none t (lines.Drain grant) keys l nothing e flown =
    by_air (played (lines.Drain grant) keys l).out (intact_none grant t _ _ flown)
line_tells_none t line keys l nothing e flown = none_of_air (played line keys l).out flown

-- ---- behind groups

pub sleeps_behind_drx : (past : List Group) → KeepsOrder past → SleepsBehindDrx past
sleeps_behind_drx [] order = tt
sleeps_behind_drx (g ∷ past) (right, order) = (
  λ own. ap (filter is_sleep) right.events_are
      ∙ line_tells_none (ttis_behind past) g.line _ (link_behind past) (behind past order).nothing
      (none_behind past own)
      (subst (AreFlown (ttis_behind past) (part_of_line g.line)) right.events_are right.of_its_time.flown),
  sleeps_behind_drx past order,
)
