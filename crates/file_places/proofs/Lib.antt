mod KeptLemmas
