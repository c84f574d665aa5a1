use Rattle.step_referee.proofs.judge.MachineJudgeJudge.leads.Given as goal

abbrev pub ghosts-lead_in : goal.ghosts-lead_in
ghosts-lead_in g a = record { name = a.blank.name; parts = a.blank.parts }
