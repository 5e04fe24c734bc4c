use Rattle.pm_desk.proofs.closing.keep_laws.Goals as goal

-- the law, of the book's list
pub returns-clause-alone : goal.returns-clause-alone
returns-clause-alone c = c.one_call_alone.ensures c.args.book.now.plan c.args.book.now.lines c.lines.ensures.lawful
