use Rattle.script_check.specs.Report.{place_text}
use Rattle.script_check.specs.Shown.{carets, shown_line}
use Rattle.script_check.proofs.ReportLemmas.{pushed}
use Rattle.script_check.proofs.report.push_entry.Goals as goal

pub returns : goal.returns
returns c =
    pushed c.args.out.now.items (place_text c.args.name.now c.args.place) c.args.told.now (shown_line c.args.line.now) (carets c.args.place)
    c.push_place.new.out.items c.extend_from_slice.new.self.items c.push.new.self.items c.push_shown.new.out.items c.push_carets.new.out.items
    c.in_ok-push_place.ensures c.in_ok-extend_from_slice.ensures.items c.in_ok-push.ensures.items c.in_ok-push_shown.ensures c.in_ok-push_carets.ensures
