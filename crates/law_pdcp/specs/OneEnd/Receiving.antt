-- A receiver through lives, and PDUs as a sender wrote them (TS 36.323 5.1.2, 5.2.2).
use Rattle.std.specs.Prelude.{ℕ, ◌%◌, ◌^◌, List, [], ◌∷◌, ◌++◌}
use Rattle.eps_sec.specs.declared.Keys.{Keys}
use Rattle.pdcp_pdu.specs.declared.PdcpKind.{PdcpKind}
use Rattle.pdcp_pdu.specs.declared.PdcpKind.TheVariants.{Srb, Um, Am}
use Rattle.pdcp_pdu.specs.Kinds.{bits_of}
use Rattle.pdcp_sec.specs.Protection.{Protection, ciphered_with}
use Rattle.pdcp_tx.specs.Pdus.{pdu}
use Rattle.pdcp_rx.specs.Heard.{Heard, Data}
use Rattle.pdcp_rx.specs.Laws.{Call, happens, ups}
use Rattle.pdcp_rx.specs.State.{State, restarted}

-- a call, or the end of a life and the beginning of the next
pub data Hearing : Type 0 where
  Calls : Call → Hearing
  Restart : Keys → Hearing

abbrev pub goes : State → Hearing → State
goes s (Calls c) = happens s c
goes s (Restart keys) = restarted s keys

abbrev pub counts_up_in : State → Hearing → List ℕ
counts_up_in s (Calls c) = ups s c
counts_up_in s (Restart keys) = []

-- the COUNTs of the SDUs that are made ready to go up, in order
abbrev pub ups_of : State → List Hearing → List ℕ
ups_of s [] = []
ups_of s (x ∷ xs) = counts_up_in s x ++ ups_of (goes s x) xs

-- what a PDU has for its receiver to open: of signalling the whole, else what stands behind the
-- header
abbrev pub body_of : PdcpKind → Protection → ℕ → List ℕ → List ℕ
body_of Srb p count sdu = pdu Srb p count sdu
body_of (Um bits) p count sdu = ciphered_with p count sdu
body_of (Am bits) p count sdu = ciphered_with p count sdu

-- how a written PDU is heard
abbrev pub as_written : PdcpKind → Protection → ℕ → List ℕ → Heard
as_written kind p count sdu = Data (count % 2 ^ bits_of kind) (body_of kind p count sdu)
