use Rattle.pfs_layout.proofs.Reading.ReaderSteps.{line_push}
use Rattle.pfs_layout.proofs.scan.Line.push.Goals as goal

pub returns : goal.returns
returns c =
    let digits = c.after-self.ensures in
    line_push digits.offset digits.first digits.value c.after-self-2.ensures.digit c.after-self-2.ensures.word
