-- Runs of a receiver over any calls, and the COUNTs that go up in one (TS 36.323 5.1.2, 5.2.2).
use Rattle.std.specs.Prelude.{ℕ, ◌+◌, Bool, true, false, List, [], ◌∷◌, ◌++◌, take, drop, Option}
use Rattle.std.specs.Prelude.{Some, None}
use Rattle.pdcp_rx.specs.declared.got.Cause.{Cause}
use Rattle.pdcp_rx.specs.declared.got.Got.{Got}
use Rattle.pdcp_rx.specs.declared.security.Opened.{Opened}
use Rattle.pdcp_rx.specs.declared.security.Opened.TheVariants.{Sdu, Differs}
use Rattle.pdcp_rx.specs.Heard.{Heard, Bad, Told, Data, heard}
use Rattle.pdcp_rx.specs.Held.{stored, rising}
use Rattle.pdcp_rx.specs.State.{State, above, passed_over, opened_at, waits, arrived}

-- the COUNTs from one on at which an SDU is held
abbrev pub counts_of : ℕ → List (Option (List ℕ)) → List ℕ
counts_of n [] = []
counts_of n (None ∷ hs) = counts_of (n + 1) hs
counts_of n (Some sdu ∷ hs) = n ∷ counts_of (n + 1) hs

abbrev pub ups_raised : State → List (Option (List ℕ)) → ℕ → List ℕ
ups_raised s held from = counts_of s.next (take (rising held from) held)

abbrev pub ups_placed : Bool → State → ℕ → List ℕ → List ℕ
ups_placed true s at sdu = []
ups_placed false s at sdu = ups_raised s (stored s.held at sdu) (at + 1)

abbrev pub ups_opened : State → Cause → ℕ → Opened → List ℕ
ups_opened s cause at (Sdu sdu) = ups_placed (waits s.kind cause at) s at sdu
ups_opened s cause at (Differs found wanted) = []

abbrev pub ups_data : Option Got → State → Cause → ℕ → Opened → List ℕ
ups_data (Some why) s cause at o = []
ups_data None s cause at o = ups_opened s cause at o

abbrev pub ups_heard : State → Cause → Heard → List ℕ
ups_heard s cause (Bad refusal) = []
ups_heard s cause (Told fms bits) = []
ups_heard s cause (Data sn body) =
    ups_data (passed_over s (above s sn)) s cause (above s sn) (opened_at s (above s sn) body)

-- a PDU comes, or an SDU that goes up is taken
pub data Call : Type 0 where
  Arrive : List ℕ → Cause → Call
  Take : Call

unfoldable pub happens : State → Call → State
happens s (Arrive pdu cause) = arrived s pdu cause
happens s Take = record s { ready = drop 1 s.ready }

-- the COUNTs of the SDUs that a call makes ready to go up
unfoldable pub ups : State → Call → List ℕ
ups s (Arrive pdu cause) = ups_heard s cause (heard s.kind pdu)
ups s Take = []

-- those of a list of calls, in order
abbrev pub gone_up : State → List Call → List ℕ
gone_up s [] = []
gone_up s (c ∷ cs) = ups s c ++ gone_up (happens s c) cs
