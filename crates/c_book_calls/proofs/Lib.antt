mod ImportFits
