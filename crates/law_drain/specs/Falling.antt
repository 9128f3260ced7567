-- What a round of a drain takes off the measure of a channel (TS 36.322 5.1, 5.2): one or more
-- where one of its bearers writes, and where none does and the poll timer of a quiet one expires.
use Rattle.std.specs.Prelude.{◌≡◌, ◌⊎◌, ℕ, ◌+◌, ◌<◌, ◌≤◌, Bool, true, false, List, [], length}
use Rattle.std.specs.Prelude.{Option}
use Rattle.l2_num.specs.Timers.{runs}
use Rattle.bearer.specs.declared.flow.Flow.{Flow}
use Rattle.bearer.specs.declared.flow.Flow.TheVariants.{Tm, Um, Am}
use Rattle.law_bearer.specs.AnyBearer.Calls.{after_all}
use Rattle.law_bearer.specs.AnyBearer.Rounds.{Round, IsRound, arrivals, writes_in}
use Rattle.law_drain.specs.Bearer.{bearer_quiet}
use Rattle.law_drain.specs.Channels.{Measured, channel_measure}
use Rattle.law_drain.specs.Ends.{OffersOctets}
use Rattle.law_drain.specs.Others.{HaveOctetsIn}
use Rattle.law_drain.specs.Pending.{IsAtTop}
use Rattle.law_drain.specs.Sharing.{is_transparent}

-- ---- what is known of the bearers at both ends

abbrev pub is_acknowledged : Flow → Bool
is_acknowledged (Tm b) = false
is_acknowledged (Um b) = false
is_acknowledged (Am b) = true

-- both are of one mode
pub record AreAlike (nb ue : Flow) : Type 0 where
  pub transparent : is_transparent nb ≡ is_transparent ue
  pub acknowledged : is_acknowledged nb ≡ is_acknowledged ue

-- each SDU that RLC has as one writes, or is given by PDCP, has an octet
abbrev pub WritesOctets : Flow → Type 0
WritesOctets (Tm b) = (share : ℕ) (held : Option ℕ) → HaveOctetsIn (Tm b) share held
WritesOctets (Um b) = (share : ℕ) (held : Option ℕ) → HaveOctetsIn (Um b) share held
WritesOctets (Am b) = OffersOctets b

-- t-Reordering, where it runs, runs for VR(H), as behind each round
abbrev pub ReordersAtTop : Flow → Type 0
ReordersAtTop (Tm b) = Unit {0}
ReordersAtTop (Um b) = Unit {0}
ReordersAtTop (Am b) = IsAtTop b.rx

-- a quiet bearer waits for its poll timer
abbrev pub AwaitsPoll : Flow → Type 0
AwaitsPoll (Tm b) = ⊥
AwaitsPoll (Um b) = ⊥
AwaitsPoll (Am b) = (bearer_quiet b ≡ 1) × (runs b.tx.polls.timer ≡ true)

-- ---- a round

-- what the bearer of the base station writes, and that of the terminal behind what came to it
abbrev pub down_writes : Round → Flow → List (List ℕ)
down_writes r nb = writes_in r.down nb

abbrev pub up_writes : Round → Flow → Flow → List (List ℕ)
up_writes r nb ue = writes_in r.up (after_all ue (arrivals (writes_in r.down nb)))

-- behind it the channel is measured and known as before, and what it costs
pub record RoundFalls (r : Round) (nb ue nb' ue' : Flow) (h : Measured nb ue) : Type 0 where
  pub left : Measured nb' ue'
  pub alike : AreAlike nb' ue'
  pub nb_top : ReordersAtTop nb'
  pub ue_top : ReordersAtTop ue'
  pub rests : channel_measure nb' ue' left ≤ channel_measure nb ue h
  -- where a round has been before, one that writes pays
  pub writes : ReordersAtTop nb → ReordersAtTop ue
      → (0 < length (down_writes r nb)) ⊎ (0 < length (up_writes r nb ue))
      → channel_measure nb' ue' left + 1 ≤ channel_measure nb ue h
  -- and so does one that is recalled, where nothing is written
  pub recalls : r.polls ≡ true → down_writes r nb ≡ [] → up_writes r nb ue ≡ []
      → AwaitsPoll nb ⊎ AwaitsPoll ue
      → channel_measure nb' ue' left + 1 ≤ channel_measure nb ue h

abbrev pub ChannelsFall : Type 0
ChannelsFall = (r : Round) (nb ue nb' ue' : Flow) → IsRound r nb ue nb' ue' → AreAlike nb ue
    → WritesOctets nb → WritesOctets (after_all ue (arrivals (down_writes r nb)))
    → (h : Measured nb ue) → RoundFalls r nb ue nb' ue' h
