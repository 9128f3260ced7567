-- The numbers of a STATUS from VR(R) on are those that its SNs give.
use Rattle.std.proofs.Common.{◌≡◌, ℕ, true, List, [], ◌∷◌, map, Some, refl, ap, ◌∙◌}
use Rattle.rlc_pdu.specs.declared.pdu.Nack.{Nack}
use Rattle.journal_account.specs.declared.entry.StatusEntry.{StatusEntry}
use Rattle.journal_account.specs.Entries.{names_number}
use Rattle.journal_flows.specs.declared.parcels.Parcel.TheVariants.{Report}
use Rattle.journal_flows.specs.NumberedPdus.{with_sn_from, entry_from}
use Rattle.journal_flows.proofs.Numbers.{own_number}
use Rattle.law_account.specs.TrueStatus.{nack_with}
use Rattle.law_account.proofs.TrueStatus.{own_named, later_named}
use Rattle.law_sound.specs.StatusLaws.{IsFrom, StatusesAreGathered}

entries_back : (front : ℕ) (ms : List StatusEntry) → ((n : ℕ) → names_number ms n ≡ true → IsFrom front n)
    → map (entry_from front) (map nack_with ms) ≡ ms
entries_back front [] from = refl
entries_back front (m ∷ ms) from =
    let own : IsFrom front m.number = from m.number (own_named m ms) in
    ap (λ (n : ℕ). record { number = n; part = m.part } ∷ map (entry_from front) (map nack_with ms))
    (own_number front m.number own.from own.below)
    ∙ ap (λ (xs : List StatusEntry). m ∷ xs) (entries_back front ms (λ n e. from n (later_named m ms n e)))

pub statuses_gathered : StatusesAreGathered
statuses_gathered next front lcid status ack entries h =
    ap (λ (n : ℕ). Some (Report lcid (with_sn_from front n) (map (entry_from front) status.nacks))) h.ack_sn
    ∙ (ap (λ (n : ℕ). Some (Report lcid n (map (entry_from front) status.nacks)))
    (own_number front ack h.ack_from.from h.ack_from.below)
    ∙ (ap (λ (ns : List Nack). Some (Report lcid ack (map (entry_from front) ns))) h.nack_sns
    ∙ ap (λ (ms : List StatusEntry). Some (Report lcid ack ms)) (entries_back front entries h.from)))
