use Rattle.law_given.proofs.LandingReports.{reports_are_heard_so, reports_begin_in_window, windows_are_read}
use Rattle.law_given.proofs.LandingWindow.{windows_stay}
use Rattle.law_given.proofs.laws.reports_are_heard_so.Goals as goal

pub returns-clause-heard : goal.returns-clause-heard
returns-clause-heard c = reports_are_heard_so

pub returns-clause-begins : goal.returns-clause-begins
returns-clause-begins c = reports_begin_in_window

pub returns-clause-stays : goal.returns-clause-stays
returns-clause-stays c = windows_stay

pub returns-clause-reads : goal.returns-clause-reads
returns-clause-reads c = windows_are_read
