use Rattle.yang_values.proofs.groups.+put_group.Given as goal

abbrev pub decreases-put_group : goal.decreases-put_group
decreases-put_group l = l.group
