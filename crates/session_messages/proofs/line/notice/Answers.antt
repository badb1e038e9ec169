use Rattle.session_messages.proofs.OneLine.{fault_line}
use Rattle.session_messages.proofs.line.notice.Goals as goal

pub returns-in-Err-Refused : goal.returns-in-Err-Refused
returns-in-Err-Refused c =
    let fed = c.in-Err-Refused.ensures in
    let told = rw (c.new-reader.ensures, c.in-Err-Refused.field-0-is) at fed in
    fault_line c.args.octets.now c.in-Err-Refused.field-0-0 told.0
