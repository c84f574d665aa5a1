use Rattle.audit.proofs.laws.a_read_text_may_be_audited.Goals as goal

pub returns-clause-some : goal.returns-clause-some
returns-clause-some c = (c.read_texts_may_be_audited.ensures c.args.bytes.now c.args.text.now c.requires).some

pub returns-clause-few : goal.returns-clause-few
returns-clause-few c = (c.read_texts_may_be_audited.ensures c.args.bytes.now c.args.text.now c.requires).few

pub returns-clause-steps : goal.returns-clause-steps
returns-clause-steps c = (c.read_texts_may_be_audited.ensures c.args.bytes.now c.args.text.now c.requires).steps

pub returns-clause-short : goal.returns-clause-short
returns-clause-short c = (c.read_texts_may_be_audited.ensures c.args.bytes.now c.args.text.now c.requires).short

pub returns-clause-parted : goal.returns-clause-parted
returns-clause-parted c = (c.read_texts_may_be_audited.ensures c.args.bytes.now c.args.text.now c.requires).parted

pub returns-clause-few_parts : goal.returns-clause-few_parts
returns-clause-few_parts c = (c.read_texts_may_be_audited.ensures c.args.bytes.now c.args.text.now c.requires).few_parts

pub returns-clause-provers : goal.returns-clause-provers
returns-clause-provers c = (c.read_texts_may_be_audited.ensures c.args.bytes.now c.args.text.now c.requires).provers
