use Rattle.ags_certsend.proofs.writing.send_cert.Goals as goal

pub returns-clause-reads_back : goal.returns-clause-reads_back
returns-clause-reads_back g c = λ machine suits. c.sent_certificate_reads_back.ensures machine c.args.cert.now c.start-start.ensures.cert suits
