use Rattle.multistate_rle.proofs.SpellingLaws.{reads_spellings}
use Rattle.multistate_rle.proofs.BodyLaws.{reads_bodies_back}
use Rattle.multistate_rle.proofs.TextBackLaws.{text_back}
use Rattle.multistate_rle.proofs.BoxLaws.{reads_back}
use Rattle.multistate_rle.proofs.WholeTextLaws.{reads_texts}
use Rattle.multistate_rle.proofs.ExactLaws.{refuses_faults, reads_exactly, refuses_exactly}
use Rattle.multistate_rle.proofs.HeaderlessLaws.{refuses_without_header}
use Rattle.multistate_rle.proofs.laws.reading_laws.Goals as goal

pub returns-clause-spellings : goal.returns-clause-spellings
returns-clause-spellings c = reads_spellings

pub returns-clause-whole : goal.returns-clause-whole
returns-clause-whole c = reads_texts

pub returns-clause-faults : goal.returns-clause-faults
returns-clause-faults c = refuses_faults

pub returns-clause-headers : goal.returns-clause-headers
returns-clause-headers c = refuses_without_header

pub returns-clause-read : goal.returns-clause-read
returns-clause-read c = reads_exactly

pub returns-clause-refused : goal.returns-clause-refused
returns-clause-refused c = refuses_exactly

pub returns-clause-bodies : goal.returns-clause-bodies
returns-clause-bodies c = reads_bodies_back

pub returns-clause-texts : goal.returns-clause-texts
returns-clause-texts c = text_back

pub returns-clause-back : goal.returns-clause-back
returns-clause-back c = reads_back
