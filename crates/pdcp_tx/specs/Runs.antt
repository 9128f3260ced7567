-- Runs of calls of one sender, through lives (TS 36.323 5.1.1, 5.2.1).
use Rattle.std.specs.Prelude.{ℕ, List, [], ◌∷◌, ◌++◌, Option, Some, None, slice_get, map}
use Rattle.l2_num.specs.Ascending.{AreBetween}
use Rattle.pdcp_tx.specs.State.{State, Offer, offers, submitted, took, confirmed, reported, owing}
use Rattle.pdcp_tx.specs.State.{ticked, after_late}

-- a call of a life that changes the sender
pub data Call : Type 0 where
  Submit : List ℕ → Call
  Take : Call
  Confirm : ℕ → Call
  Report : ℕ → List ℕ → Call
  Owe : List ℕ → Call
  Tick : Call
  Late : Call

-- what it makes of the sender
abbrev pub after : State → Call → State
after s (Submit sdu) = submitted s sdu
after s Take = took s
after s (Confirm place) = confirmed s place
after s (Report fms bitmap) = reported s fms bitmap
after s (Owe report) = owing s report
after s Tick = ticked s
after s Late = after_late s

-- the COUNT of an offer, as a list
abbrev pub counts_in : Option ℕ → List ℕ
counts_in None = []
counts_in (Some count) = count ∷ []

abbrev pub count_of : Option Offer → List ℕ
count_of None = []
count_of (Some o) = counts_in o.count

-- the COUNT that a call takes
abbrev pub takes : State → Call → List ℕ
takes s (Submit sdu) = []
takes s Take = count_of (slice_get (offers s) 0)
takes s (Confirm place) = []
takes s (Report fms bitmap) = []
takes s (Owe report) = []
takes s Tick = []
takes s Late = []

-- the COUNTs that are taken by calls, in order
abbrev pub taken : State → List Call → List ℕ
taken s [] = []
taken s (c ∷ cs) = takes s c ++ taken (after s c) cs

-- the COUNTs to be given again ascend below that of the next new SDU
abbrev pub IsOrdered : State → Type 0
IsOrdered s = AreBetween 0 (map (λ x. x.count) s.again) s.next
