use Rattle.web_streams.proofs.writer.SocketWriterWrite.write.Goals as goal

pub returns-in-Ok-clause-no_frame : goal.returns-in-Ok-clause-no_frame
returns-in-Ok-clause-no_frame g c = λ none. absurd (none c.in-Some.body.now c.in-Some.ensures.short c.in-Some.ensures.some)
