use Rattle.writing.proofs.sinks.AreaSink.put_all.Goals as goal

pub returns : goal.returns
returns c = c.fill-self.ensures c.args.self.now
